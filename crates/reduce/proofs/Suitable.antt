-- What the tests on a list make sure of, as the reduction wants it.
use Rattle.std.proofs.Common.{◌≡◌, ℕ, ◌+◌, Bool, true, false, eqb, List, [], ◌∷◌, Some, None, sym, refl, ap, ◌∙◌, true≢false, arith}
use Rattle.std.proofs.lemmas.Bool.{eqb-true, and_parts, ltb-true}
use Rattle.records.specs.Formed.{fields_suit_code}
use Rattle.records.specs.declared.operations.Code.{Code}
use Rattle.records.specs.declared.operations.Code.TheVariants.{ReplaceNode, ReplaceContent}
use Rattle.document.specs.Tree.{Forest, nil, WellFormed}
use Rattle.document.proofs.Tested.{some_none}
use Rattle.changes.specs.Changes.{Change, same_code, changes_on, joined_nodes, first_of, nodes_given, is_some}
use Rattle.changes.specs.Reduced.{reduced}
use Rattle.changes.specs.Tests.{first_refused, second_of_code, only_once, SoundChanges, Suits}
use Rattle.changes.proofs.Rows.{⊕-nil}
use Rattle.changes.proofs.Dropping.{same_code_true}
use Rattle.changes.proofs.Passing.{passed_all, all_pass, fit_marks}
use Rattle.reduce.specs.Mirror.{given_if, reduced_row}
use Rattle.reduce.proofs.Mirroring.{joined_none, mirrored}

-- a change whose code comes once on its target comes there no second time
module _ (t : ℕ) (c : Code) (once : only_once c ≡ true) where
  none_later : (e : List Change) (n : ℕ) (l : List Change) → first_refused second_of_code e n l ≡ None → is_some (first_of c (changes_on t e)) ≡ true → is_some (first_of c (changes_on t l)) ≡ false
  none_later e n [] h q = refl
  none_later e n (o ∷ l) h q = go (eqb o.target t) (same_code o.code c) (second_of_code e o) refl refl refl (none_later (o ∷ e) (n + 1) l)
    where
      go : (a b z : Bool) → eqb o.target t ≡ a → same_code o.code c ≡ b → second_of_code e o ≡ z
          → (first_refused second_of_code (o ∷ e) (n + 1) l ≡ None → is_some (first_of c (changes_on t (o ∷ e))) ≡ true → is_some (first_of c (changes_on t l)) ≡ false)
          → is_some (first_of c (changes_on t (o ∷ l))) ≡ false
      go a b true p w u k = absurd (some_none n (rw u at h))
      go true true false p w u k =
          let i : o.target ≡ t = eqb-true o.target t p in
          let j : o.code ≡ c = same_code_true o.code c w in
          absurd (true≢false (sym (rw (j, i, once, q)) ∙ u))
      go true false false p w u k = rw (p, w) (k (rw u at h) (rw (p, w) q))
      go false b false p w u k = rw p (k (rw u at h) (rw p q))

  first_is_all : (e : List Change) (n : ℕ) (l : List Change) → first_refused second_of_code e n l ≡ None
      → nodes_given (first_of c (changes_on t l)) ≡ given_if (is_some (first_of c (changes_on t l))) (joined_nodes c (changes_on t l))
  first_is_all e n [] h = refl
  first_is_all e n (o ∷ l) h = go (eqb o.target t) (same_code o.code c) (second_of_code e o) refl refl refl (first_is_all (o ∷ e) (n + 1) l) (none_later (o ∷ e) (n + 1) l)
    where
      go : (a b z : Bool) → eqb o.target t ≡ a → same_code o.code c ≡ b → second_of_code e o ≡ z
          → (first_refused second_of_code (o ∷ e) (n + 1) l ≡ None → nodes_given (first_of c (changes_on t l)) ≡ given_if (is_some (first_of c (changes_on t l))) (joined_nodes c (changes_on t l)))
          → (first_refused second_of_code (o ∷ e) (n + 1) l ≡ None → is_some (first_of c (changes_on t (o ∷ e))) ≡ true → is_some (first_of c (changes_on t l)) ≡ false)
          → nodes_given (first_of c (changes_on t (o ∷ l))) ≡ given_if (is_some (first_of c (changes_on t (o ∷ l)))) (joined_nodes c (changes_on t (o ∷ l)))
      go a b true p w u i j = absurd (some_none n (rw u at h))
      go true true false p w u i j =
          let z : joined_nodes c (changes_on t l) ≡ nil = joined_none c (changes_on t l) (j (rw u at h) (rw (p, w))) in
          rw (p, w, z) (ap Some (sym (⊕-nil o.nodes)))
      go true false false p w u i j = rw (p, w) (i (rw u at h))
      go false b false p w u i j = rw p (i (rw u at h))

-- no change is on 0
none_on_zero : (l : List Change) → SoundChanges l → changes_on 0 l ≡ []
none_on_zero [] h = refl
none_on_zero (o ∷ l) h = go (eqb o.target 0) refl (none_on_zero l h.2)
  where
    go : (b : Bool) → eqb o.target 0 ≡ b → changes_on 0 l ≡ [] → changes_on 0 (o ∷ l) ≡ []
    go true e i = absurd (omega (arith, eqb-true o.target 0 e, ltb-true 0 o.target (and_parts _ (fields_suit_code o.code o.name o.value) h.0).0))
    go false e i = rw e i

-- the reduced list of a list that suits is the one that is read off node by node
pub reduced_is_read_off : (room : ℕ) (d : Forest) (l : List Change) → WellFormed d → Suits room d l → reduced d l ≡ reduced_row l 0 d
reduced_is_read_off room d l w s =
    let p = passed_all room d l s.passes in
    mirrored l
    (record { replaced = λ t. first_is_all t ReplaceNode refl [] 0 l p.once; content = λ t. first_is_all t ReplaceContent refl [] 0 l p.once })
    d (none_on_zero l s.sound) (fit_marks d l (all_pass room d l s) d w.sound w.distinct (λ t q. refl))
