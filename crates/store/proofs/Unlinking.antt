-- What a take changes in the views of the other nodes.
use Rattle.std.proofs.Common.{◌≡◌, ℕ, ◌+◌, ◌<◌, ◌≤◌, Bool, true, false, cond, eqb, ◌⊎◌, List, [], ◌∷◌, Some, Option, sym, refl, ap, ◌∙◌, inl, inr, arith}
use Rattle.std.specs.Option.{option_map}
use Rattle.std.proofs.lemmas.Bool.{eqb-true, eqb-false, ne_eqb, cases_lt}
use Rattle.document.specs.Tree.{Label, Forest, nil, node, one, count_labels, count}
use Rattle.document.specs.Listing.{row}
use Rattle.document.proofs.Counting.{one_zero}
use Rattle.store.specs.Kept.{Shaped}
use Rattle.store.specs.Views.{View, view, first_of, first_label, or_else, attribute_view, node_view, view_attribute, view_in}
use Rattle.store.specs.Writes.{lacking, without_tree, without}
use Rattle.store.specs.Says.{is_bare, take_leaves}
use Rattle.store.specs.Links.{passed_on, unlinked, TakeUnlinks}
use Rattle.store.proofs.Along.{Steps, along, seen, absent, mapped_else}
use Rattle.store.proofs.Shapes.{lacking_none, no_zero}
use Rattle.store.proofs.Takes.{bare_node, accepted, leaves_accepted, take_count}

-- a node is seen anew where all its parts are
pub assembled : (U : View → View) (u p l : ℕ) (r : Label) (as' bs : List Label) (k k' f f' : Forest)
    → view_attribute u r.id bs ≡ option_map U (view_attribute u r.id as') → view_in u r.id 0 k' ≡ option_map U (view_in u r.id 0 k) → view_in u p r.id f' ≡ option_map U (view_in u p r.id f)
    → (eqb r.id u ≡ true → node_view p l r bs k' f' ≡ U (node_view p l r as' k f)) → view_in u p l (node r bs k' f') ≡ option_map U (view_in u p l (node r as' k f))
assembled U u p l r as' bs k k' f f' a i j h = go (eqb r.id u) refl
  where
    go : (b : Bool) → eqb r.id u ≡ b
        → cond b (Some (node_view p l r bs k' f')) (or_else (view_attribute u r.id bs) (or_else (view_in u r.id 0 k') (view_in u p r.id f')))
        ≡ option_map U (cond b (Some (node_view p l r as' k f)) (or_else (view_attribute u r.id as') (or_else (view_in u r.id 0 k) (view_in u p r.id f))))
    go true e = ap Some (h e)
    go false e =
        rw (a, i, j)
        (sym (mapped_else U (view_attribute u r.id as') (or_else (view_in u r.id 0 k) (view_in u p r.id f))
        ∙ ap (λ (o : Option View). or_else (option_map U (view_attribute u r.id as')) o) (mapped_else U (view_in u r.id 0 k) (view_in u p r.id f))))

module _ (t : ℕ) (w : View) (pos : 0 < t) where
  -- links that do not lead to t
  kept_link : (on x : ℕ) → (x ≡ t → ⊥) → passed_on t on x ≡ x
  kept_link on x h = rw (ne_eqb x t h)

  none : (on : ℕ) → passed_on t on 0 ≡ 0
  none on = kept_link on 0 (λ e. omega arith)

  first_kept : (on : ℕ) (d : Forest) → count t d ≡ 0 → passed_on t on (first_of d) ≡ first_of d
  first_kept on nil z = none on
  first_kept on (node r as' k f) z = kept_link on r.id (eqb-false r.id t (one_zero (eqb r.id t) (omega arith)))

  label_kept : (on : ℕ) (as' : List Label) → count_labels t as' ≡ 0 → passed_on t on (first_label as') ≡ first_label as'
  label_kept on [] z = none on
  label_kept on (r ∷ l) z = kept_link on r.id (eqb-false r.id t (one_zero (eqb r.id t) (omega arith)))

  -- the view of an attribute and of a node, link by link
  attribute_links : (q : ℕ) (r : Label) (l : List Label) (m : ℕ) → passed_on t w.next_attribute (first_label l) ≡ m
      → unlinked t w (attribute_view q r l) ≡ record { row = row q r; left = 0; first_child = 0; next_sibling = 0; first_attribute = 0; next_attribute = m }
  attribute_links q r l m e = rw (none w.left, none w.next_sibling, none w.next_attribute, e)

  node_links : (p l l' : ℕ) (r : Label) (as' as'' : List Label) (k k' f f' : Forest) → passed_on t w.left l ≡ l' → passed_on t w.next_attribute (first_label as') ≡ first_label as''
      → passed_on t w.next_sibling (first_of k) ≡ first_of k' → passed_on t w.next_sibling (first_of f) ≡ first_of f'
      → unlinked t w (node_view p l r as' k f) ≡ node_view p l' r as'' k' f'
  node_links p l l' r as' as'' k k' f f' a b c e = rw (a, b, c, e, none w.next_attribute)

  labels_kept : (u q : ℕ) (as' : List Label) → count_labels t as' ≡ 0 → option_map (unlinked t w) (view_attribute u q as') ≡ view_attribute u q as'
  labels_kept u q [] z = refl
  labels_kept u q (r ∷ l) z = go (eqb r.id u) (labels_kept u q l (omega arith))
    where
      go : (b : Bool) → option_map (unlinked t w) (view_attribute u q l) ≡ view_attribute u q l
          → option_map (unlinked t w) (cond b (Some (attribute_view q r l)) (view_attribute u q l)) ≡ cond b (Some (attribute_view q r l)) (view_attribute u q l)
      go true h = ap Some (attribute_links q r l (first_label l) (label_kept w.next_attribute l (omega arith)))
      go false h = h

  -- trees without t change only where they stand behind t
  trees_kept : (u p l : ℕ) (d : Forest) → count t d ≡ 0 → option_map (unlinked t w) (view_in u p l d) ≡ view_in u p (passed_on t w.left l) d
  trees_kept u p l nil z = refl
  trees_kept u p l (node r as' k f) z = go (eqb r.id u) (trees_kept u r.id 0 k (omega arith)) (trees_kept u p r.id f (omega arith))
    where
      other : r.id ≡ t → ⊥
      other = eqb-false r.id t (one_zero (eqb r.id t) (omega arith))

      go : (b : Bool) → option_map (unlinked t w) (view_in u r.id 0 k) ≡ view_in u r.id (passed_on t w.left 0) k → option_map (unlinked t w) (view_in u p r.id f) ≡ view_in u p (passed_on t w.left r.id) f
          → option_map (unlinked t w) (cond b (Some (node_view p l r as' k f)) (or_else (view_attribute u r.id as') (or_else (view_in u r.id 0 k) (view_in u p r.id f))))
          ≡ cond b (Some (node_view p (passed_on t w.left l) r as' k f)) (or_else (view_attribute u r.id as') (or_else (view_in u r.id 0 k) (view_in u p r.id f)))
      go true i j =
          ap Some (node_links p l (passed_on t w.left l) r as' as' k k f f refl (label_kept w.next_attribute as' (omega arith)) (first_kept w.next_sibling k (omega arith)) (first_kept w.next_sibling f (omega arith)))
      go false i j =
          mapped_else (unlinked t w) (view_attribute u r.id as') (or_else (view_in u r.id 0 k) (view_in u p r.id f))
          ∙ ap (λ (o : Option View). or_else (option_map (unlinked t w) (view_attribute u r.id as')) o) (mapped_else (unlinked t w) (view_in u r.id 0 k) (view_in u p r.id f))
          ∙ rw (labels_kept u r.id as' (omega arith), i, j, none w.left, kept_link w.left r.id other)

  -- trees without t that do not stand behind t
  trees_same : (u p l : ℕ) (d : Forest) → (l ≡ t → ⊥) → count t d ≡ 0 → view_in u p l d ≡ option_map (unlinked t w) (view_in u p l d)
  trees_same u p l d h z = sym (trees_kept u p l d z ∙ ap (λ (m : ℕ). view_in u p m d) (kept_link w.left l h))

  labels_less : (q : ℕ) (as' : List Label) → view_attribute t q as' ≡ Some w → count_labels t as' ≤ 1
      → (first_label (lacking t as') ≡ passed_on t w.next_attribute (first_label as')) × ((u : ℕ) → (u ≡ t → ⊥) → view_attribute u q (lacking t as') ≡ option_map (unlinked t w) (view_attribute u q as'))
  labels_less q [] e c = let z : ◌≡◌ {A = ℕ} 0 1 = cc in absurd (omega arith)
  labels_less q (r ∷ l) e c = go (eqb r.id t) refl e c (labels_less q l)
    where
      Less : List Label → List Label → Type 0
      Less as' bs = (first_label bs ≡ passed_on t w.next_attribute (first_label as')) × ((u : ℕ) → (u ≡ t → ⊥) → view_attribute u q bs ≡ option_map (unlinked t w) (view_attribute u q as'))

      go : (b : Bool) → eqb r.id t ≡ b → cond b (Some (attribute_view q r l)) (view_attribute t q l) ≡ Some w → one b + count_labels t l ≤ 1
          → (view_attribute t q l ≡ Some w → count_labels t l ≤ 1 → Less l (lacking t l)) → Less (r ∷ l) (cond b (lacking t l) (r ∷ lacking t l))
      go true h e c ih =
          let same : attribute_view q r l ≡ w = cc in
          let gone : count_labels t l ≡ 0 = omega arith in
          let rest : lacking t l ≡ l = lacking_none t l gone in (
            rw (rest, h) (ap (λ (v : View). v.next_attribute) same),
            λ u ne.
                let other : eqb r.id u ≡ false = ne_eqb r.id u (λ x. ne (sym x ∙ eqb-true r.id t h)) in
                rw (rest, other) (sym (labels_kept u q l gone)),
          )
      go false h e c ih =
          let m = ih e (omega arith) in
          (sym (kept_link w.next_attribute r.id (eqb-false r.id t h)), λ u ne. at u (eqb r.id u) m.0 (m.1 u ne))
        where
          at : (u : ℕ) (b : Bool) → first_label (lacking t l) ≡ passed_on t w.next_attribute (first_label l) → view_attribute u q (lacking t l) ≡ option_map (unlinked t w) (view_attribute u q l)
              → cond b (Some (attribute_view q r (lacking t l))) (view_attribute u q (lacking t l)) ≡ option_map (unlinked t w) (cond b (Some (attribute_view q r l)) (view_attribute u q l))
          at u true x y = ap Some (sym (attribute_links q r l (first_label (lacking t l)) (sym x)))
          at u false x y = y

  module _ (bare : is_bare w ≡ true) where
    abbrev Claim : ℕ → ℕ → Forest → Forest → Type 0
    Claim p l d d' = (l ≡ t → ⊥) → Shaped d
        → (first_of d' ≡ passed_on t w.next_sibling (first_of d)) × ((u : ℕ) → (u ≡ t → ⊥) → view_in u p l d' ≡ option_map (unlinked t w) (view_in u p l d))

    steps : Steps t (lacking t) without_tree w Claim
    steps = record {
      at_node = λ p l r as' k f e s z₁ z₂ z₃ nl sh.
          let b = bare_node t w bare p l r as' k f s sh in (
            rw e (ap (λ (v : View). v.next_sibling) (sym s)),
            λ u ne.
                let other : eqb r.id u ≡ false = ne_eqb r.id u (λ x. ne (sym x ∙ eqb-true r.id t e)) in
                let left : passed_on t w.left r.id ≡ l = rw e (ap (λ (v : View). v.left) s) in
                rw (b.0, b.1, other) (sym (trees_kept u p r.id f z₃ ∙ ap (λ (m : ℕ). view_in u p m f) left)),
          );
      at_label = λ p l r as' k f e s z₁ z₂ z₃ nl sh.
          let m = labels_less r.id as' s (omega arith) in
          let other = eqb-false r.id t e in (
            sym (kept_link w.next_sibling r.id other),
            λ u ne.
                assembled (unlinked t w) u p l r as' (lacking t as') k k f f (m.1 u ne) (trees_same u r.id 0 k (λ x. omega arith) z₂) (trees_same u p r.id f other z₃)
                (λ x. sym (node_links p l l r as' (lacking t as') k k f f (kept_link w.left l nl) (sym m.0) (first_kept w.next_sibling k z₂) (first_kept w.next_sibling f z₃))),
          );
      below = λ p l r as' k k' f e z₁ o z₃ ih nl sh.
          let m = ih (λ x. omega arith) sh.4 in
          let other = eqb-false r.id t e in (
            sym (kept_link w.next_sibling r.id other),
            λ u ne.
                assembled (unlinked t w) u p l r as' as' k k' f f (sym (labels_kept u r.id as' z₁)) (m.1 u ne) (trees_same u p r.id f other z₃)
                (λ x. sym (node_links p l l r as' as' k k' f f (kept_link w.left l nl) (label_kept w.next_attribute as' z₁) (sym m.0) (first_kept w.next_sibling f z₃))),
          );
      behind = λ p l r as' k f f' e z₁ z₂ o ih nl sh.
          let other = eqb-false r.id t e in
          let m = ih other sh.5 in (
            sym (kept_link w.next_sibling r.id other),
            λ u ne.
                assembled (unlinked t w) u p l r as' as' k k f f' (sym (labels_kept u r.id as' z₁)) (trees_same u r.id 0 k (λ x. omega arith) z₂) (m.1 u ne)
                (λ x. sym (node_links p l l r as' as' k k f f' (kept_link w.left l nl) (label_kept w.next_attribute as' z₁) (first_kept w.next_sibling k z₂) (sym m.0))),
          );
    }

    unlinks : (d : Forest) → count t d ≤ 1 → view d t ≡ Some w → Shaped d → (u : ℕ) → (u ≡ t → ⊥) → view (without t d) u ≡ option_map (unlinked t w) (view d u)
    unlinks d c at sh = (along t (lacking t) without_tree (lacking_none t) w Claim steps d 0 0 c at (λ x. omega arith) sh).1

above_nothing : (t : ℕ) (d : Forest) → Shaped d → 1 ≤ count t d → 0 < t
above_nothing t d sh o = go (cases_lt 0 t)
  where
    go : (0 < t) ⊎ (t ≤ 0) → 0 < t
    go (inl h) = h
    go (inr h) = let e : t ≡ 0 = omega arith in let z : count t d ≡ 0 = rw e (no_zero d sh) in absurd (omega arith)

pub take_unlinks : TakeUnlinks
take_unlinks d t w kept at h =
    let a = accepted d t h in
    let same : a.v ≡ w = some_same (sym a.at ∙ at) in
    let bare : is_bare w ≡ true = rw (← same) a.bare in
    let left : take_leaves d t ≡ without t d = leaves_accepted d t h in
    let gone : count t (without t d) ≡ 0 = take_count d t kept h in (
      rw left (absent t 0 0 (without t d) gone),
      λ u ne. rw left (unlinks t w (above_nothing t d kept.shaped (seen t 0 0 d w at)) bare d (kept.distinct t) at kept.shaped u ne),
    )
  where
    some_same : {x y : View} → Some x ≡ Some y → x ≡ y
    some_same e = cc
