-- What holds of a list that suits a well-formed document.
use Rattle.std.proofs.Common.{◌≡◌, ℕ, ◌+◌, ◌≤◌, Bool, true, false, ltb, List, None, sym, refl, ap, ◌∙◌, subst, arith}
use Rattle.std.proofs.lemmas.Bool.{ltb-false}
use Rattle.records.specs.declared.operations.Code.{Code}
use Rattle.document.specs.Tree.{Forest, count, OneElement, nil, node, WellFormed, Sound, size}
use Rattle.document.proofs.Tested.{some_none}
use Rattle.changes.specs.Changes.{Change, size_nodes, count_nodes}
use Rattle.changes.specs.Stages.{apply}
use Rattle.changes.specs.Marks.{MarkedForest, unmark, mark, NodeChanges, removed, no_marks, marked, all_stages_at_once}
use Rattle.changes.specs.Reduced.{reduced, reduced_marks, changes_in_order, without_overridden, gathered_by_gap}
use Rattle.changes.specs.Inverse.{inverse, inverse_marks, removed_run}
use Rattle.changes.specs.Overriding.{empty_replacements_deleted, not_overridden}
use Rattle.changes.specs.Tests.{Suits, room_lacks}
use Rattle.changes.specs.Order.{InOrder, count_changes}
use Rattle.changes.proofs.Reading.{marks_back}
use Rattle.changes.proofs.Settling.{reduced_again, inverse_reduced, inverse_gathered}
use Rattle.changes.proofs.Inverting.{gathered_all}
use Rattle.changes.proofs.Gapping.{of_marks}
use Rattle.changes.specs.Order.{AllBehindOrFirst}
use Rattle.changes.proofs.Stages.{stages, level_tidy}
use Rattle.changes.proofs.Weighing.{weigh, each, brought, size_weigh, size_nodes_weigh, weigh_in_order}
use Rattle.changes.proofs.Dropping.{dropped_same}
use Rattle.changes.proofs.Fitting.{Each, Fit}
use Rattle.changes.proofs.Keeping.{inverse_fit}
use Rattle.changes.proofs.Leading.{Ready, reduced_of, unmark_reduced, reduced_same, fresh, inverse_back, once_reduced, unmark_inverse, once_inverse, after_reduced, reduced_balances, none_lost}
use Rattle.changes.proofs.Passing.{ChangePasses, root_stays, RootStays, suits_ready, all_pass, passed_all}
use Rattle.changes.proofs.Naming.{Named, gathered_named, left_named}
use Rattle.changes.proofs.Sounding.{sound_after}
use Rattle.changes.proofs.Returning.{inverse_named}
use Rattle.changes.proofs.Suiting.{RootKept}
use Rattle.changes.proofs.Granting.{marks_suit}
use Rattle.changes.proofs.Ordering.{changes_stand_in_order, changes_once}

-- the changes of reduced marks are their own reduced list
pub own_reduced : (m : MarkedForest) → ((t : ℕ) → count t (unmark m) ≤ 1) → reduced_marks m ≡ m → reduced (unmark m) (changes_in_order m) ≡ changes_in_order m
unfolding reduced
own_reduced m c e = ap (λ x. changes_in_order (reduced_marks x)) (marks_back m c) ∙ ap changes_in_order e

-- reduced marks and their changes have one inverse
same_inverse : (m : MarkedForest) → ((t : ℕ) → count t (unmark m) ≤ 1) → reduced_marks m ≡ m → inverse (unmark m) (changes_in_order m) ≡ changes_in_order (inverse_marks m)
unfolding inverse
same_inverse m c e = ap (λ x. changes_in_order (inverse_marks (reduced_marks x))) (marks_back m c) ∙ ap (λ x. changes_in_order (inverse_marks x)) e

-- the root of a document stays, in the reduced and in the inverse marks
reduced_root : (d : Forest) (l : List Change) → OneElement d → Each (ChangePasses d) l → RootKept (reduced_marks (mark l d))
reduced_root nil l o h = tt
reduced_root (node r as' k nil) l o h =
    let u = root_stays r as' k nil l h in rw (u.0, u.1, u.2, u.3) (refl, refl, refl, refl)
reduced_root (node r as' k (node s bs k' f)) l o h = absurd o

stays_kept : (a : NodeChanges) → RootStays a → removed a ≡ false
stays_kept a h = rw (h.2, h.3)

inverse_root : (m : MarkedForest) → OneElement (unmark m) → RootKept m → RootKept (inverse_marks m)
inverse_root no_marks o h = tt
inverse_root (marked r a as' k no_marks) o h = rw (stays_kept a h) (refl, refl, refl, refl)
inverse_root (marked r a as' k (marked s b bs k' f)) o h = absurd o

root_after : (m : MarkedForest) → OneElement (unmark m) → RootKept m → OneElement (all_stages_at_once m)
root_after no_marks o h = o
root_after (marked r a as' k no_marks) o h = rw (h.0, h.1, stays_kept a h) o
root_after (marked r a as' k (marked s b bs k' f)) o h = absurd o

module _ (room : ℕ) (d : Forest) (l : List Change) (w : WellFormed d) (s : Suits room d l) where
  ready : Ready d l
  ready = suits_ready room d l w s

  passing : Each (ChangePasses d) l
  passing = all_pass room d l s

  m : MarkedForest
  m = reduced_of d l ready

  unmark_m : unmark m ≡ d
  unfolding m
  unmark_m = unmark_reduced d l ready

  m_fits : Fit m
  unfolding m reduced_of
  m_fits = ready.fits

  m_named : Named m
  unfolding m reduced_of
  m_named = gathered_named (without_overridden (mark l d)) nil (left_named d l w (passed_all room d l s.passes).names)

  m_reduced : reduced_marks m ≡ m
  unfolding m reduced_of
  m_reduced = reduced_again (mark l d)

  m_root : RootKept m
  unfolding m reduced_of
  m_root = reduced_root d l w.root passing

  m_sound : Sound (unmark m)
  m_sound = rw unmark_m w.sound

  m_single : (t : ℕ) → count t (unmark m) ≤ 1
  m_single t = rw unmark_m (w.distinct t)

  list_m : reduced d l ≡ changes_in_order m
  unfolding reduced m reduced_of
  list_m = refl

  pub leads_to_the_same : apply (reduced d l) d ≡ apply l d
  leads_to_the_same = reduced_same d l ready

  pub one_pass : apply l d ≡ all_stages_at_once (mark l d)
  one_pass = stages l (fresh d l ready) d (level_tidy d ready.tidy)

  pub leads_back : apply (inverse d l) (apply l d) ≡ d
  leads_back = inverse_back d l ready

  -- room
  pub fits_room : size d + size_nodes (reduced d l) ≤ room
  fits_room = go (ltb room (size d + size_nodes (reduced d l))) refl (passed_all room d l s.passes).room_fits
    where
      go : (b : Bool) → ltb room (size d + size_nodes (reduced d l)) ≡ b → room_lacks room d l ≡ None → size d + size_nodes (reduced d l) ≤ room
      go true e h = absurd (some_none 0 (rw e at h))
      go false e h = ltb-false room (size d + size_nodes (reduced d l)) e

  -- the reduced list
  pub reduced_own : reduced d (reduced d l) ≡ reduced d l
  reduced_own = rw list_m (rw unmark_m at (own_reduced m m_single m_reduced))

  list_inverse : inverse d l ≡ changes_in_order (inverse_marks m)
  unfolding inverse m reduced_of
  list_inverse = refl

  pub inverse_of_reduced : inverse d (reduced d l) ≡ inverse d l
  inverse_of_reduced = ap (inverse d) list_m ∙ (rw unmark_m at (same_inverse m m_single m_reduced)) ∙ sym list_inverse

  m_once : (t : ℕ) → count t d + count_nodes t (changes_in_order m) ≤ 1
  unfolding m
  m_once t = once_reduced d l ready t

  pub reduced_suits : Suits room d (reduced d l)
  reduced_suits =
      subst (λ (x : Forest). Suits room x (reduced d l)) unmark_m
      (rw list_m (marks_suit room m m_sound m_fits m_named m_root (λ t. rw unmark_m (m_once t)) (own_reduced m m_single m_reduced) (rw unmark_m (rw list_m at fits_room))))

  -- the changed document
  inv : MarkedForest
  inv = inverse_marks m

  unmark_inv : unmark inv ≡ apply l d
  unfolding inv m
  unmark_inv = unmark_inverse d l ready

  list_inv : inverse d l ≡ changes_in_order inv
  unfolding inverse inv m reduced_of
  list_inv = refl

  inv_once : (t : ℕ) → count t (unmark inv) + count_nodes t (changes_in_order inv) ≤ 1
  unfolding inv m
  inv_once t = once_inverse d l ready t

  inv_single : (t : ℕ) → count t (unmark inv) ≤ 1
  inv_single t = omega (arith, inv_once t)

  after_m : all_stages_at_once m ≡ apply l d
  unfolding m
  after_m = after_reduced d l ready

  changed_once : (t : ℕ) → count t (apply l d) ≤ 1
  changed_once t = rw (← unmark_inv) (inv_single t)

  changed_sound : Sound (apply l d)
  changed_sound = rw after_m at (sound_after m m_sound m_fits m_named (λ t. rw after_m (changed_once t)))

  pub changed_well_formed : WellFormed (apply l d)
  changed_well_formed = record {
    root = rw after_m at (root_after m (rw unmark_m w.root) m_root);
    sound = changed_sound;
    distinct = changed_once;
  }

  -- nodes of the changed document and of the inverse list
  balance : weigh each (unmark inv) + (brought each inv + weigh each (removed_run m)) ≡ weigh each (unmark m) + brought each m
  unfolding inv m
  balance = reduced_balances d l ready each

  lost : removed_run m ≡ nil
  unfolding m
  lost = none_lost d l ready

  pub nodes_balance : size (apply l d) + size_nodes (inverse d l) ≡ size d + size_nodes (reduced d l)
  nodes_balance =
      rw (list_m, list_inv)
      (omega (
        arith,
        size_weigh (apply l d),
        size_weigh d,
        size_nodes_weigh (changes_in_order m),
        size_nodes_weigh (changes_in_order inv),
        weigh_in_order each m,
        weigh_in_order each inv,
        ap (weigh each) unmark_inv,
        ap (weigh each) unmark_m,
        balance,
        ap (weigh each) lost,
      ))

  pub changed_fits_room : size (apply l d) ≤ room
  changed_fits_room = omega (arith, nodes_balance, fits_room)

  -- the inverse list
  inv_reduced : reduced_marks inv ≡ inv
  unfolding inv
  inv_reduced = inverse_reduced m

  inv_fits : Fit inv
  unfolding inv
  inv_fits = inverse_fit m m_sound m_fits

  inv_named : Named inv
  unfolding inv
  inv_named = inverse_named m m_sound m_fits m_named

  inv_root : RootKept inv
  unfolding inv
  inv_root = inverse_root m (rw unmark_m w.root) m_root

  pub inserts_by_gap : AllBehindOrFirst (reduced d l) × AllBehindOrFirst (inverse d l)
  unfolding m reduced_of inv
  inserts_by_gap = (rw list_m (of_marks m (gathered_all (without_overridden (mark l d)) nil) m_fits), rw list_inv (of_marks inv (inverse_gathered m) inv_fits))

  pub inverse_own : reduced (apply l d) (inverse d l) ≡ inverse d l
  inverse_own = rw list_inv (rw unmark_inv at (own_reduced inv inv_single inv_reduced))

  pub inverse_suits : Suits room (apply l d) (inverse d l)
  inverse_suits =
      subst (λ (x : Forest). Suits room x (inverse d l)) unmark_inv
      (rw list_inv (marks_suit room inv (rw unmark_inv changed_sound) inv_fits inv_named inv_root inv_once (own_reduced inv inv_single inv_reduced) fits))
    where
      fits : size (unmark inv) + size_nodes (changes_in_order inv) ≤ room
      fits = let u : size (apply l d) + size_nodes (inverse d l) ≤ room = omega (arith, nodes_balance, fits_room) in rw unmark_inv (rw list_inv at u)

  -- both lists stand in order
  pub reduced_ordered : InOrder d (reduced d l) × ((t : ℕ) (c : Code) → count_changes t c (reduced d l) ≤ 1)
  reduced_ordered =
      (subst (λ (x : Forest). InOrder x (reduced d l)) unmark_m (rw list_m (changes_stand_in_order m m_single)), rw list_m (changes_once m m_single))

  pub inverse_ordered : InOrder (apply l d) (inverse d l) × ((t : ℕ) (c : Code) → count_changes t c (inverse d l) ≤ 1)
  inverse_ordered =
      (subst (λ (x : Forest). InOrder x (inverse d l)) unmark_inv (rw list_inv (changes_stand_in_order inv inv_single)), rw list_inv (changes_once inv inv_single))

pub reduced_by_rules : (d : Forest) (l : List Change) → ((t : ℕ) → count t d ≤ 1)
    → reduced d l ≡ changes_in_order (gathered_by_gap (empty_replacements_deleted (mark (not_overridden d l) d)) nil)
unfolding reduced
reduced_by_rules d l c = ap (λ x. changes_in_order (gathered_by_gap x nil)) (sym (dropped_same d l c))
