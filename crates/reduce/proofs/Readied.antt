-- That a list is ready to be looked up in is a fact without choices: it can be had from its truncation.
use Rattle.std.proofs.Common.{◌≡◌, ℕ, ◌<◌, false, ◌⊎◌, List, [], ◌∷◌, length, get_or, drop, sym, ap, ◌∙◌, inl, inr}
use mathlib.Core.Logic.{∥∥₁_elim}
use mathlib.Core.HLevel.{Σ_prop_path}
use mathlib.Core.List.{is_set}
use base.Stored.{Coded-set, coded_bool}
use denote.Struct.Props.{≡_prop}
use native.Mathlib.Bridge.{le_prop}
use Rattle.std.proofs.Math.Nat.{ℕ_set}
use Rattle.std.proofs.lemmas.Bool.{cases_order}
use Rattle.records.specs.contracts.nodes.Node.{the_row as node_row}
use Rattle.records.specs.declared.nodes.Node.{Node}
use Rattle.records.specs.declared.operations.Operation.{Operation}
use Rattle.reduce.specs.contracts.keys.Entry.{the_row as entry_row}
use Rattle.reduce.specs.declared.keys.Entry.{Entry}
use Rattle.reduce.specs.declared.ordered_list.OrderedList.{OrderedList}
use Rattle.reduce.proofs.Indexing.{no_entry}
use Rattle.reduce.specs.Groups.{Stretches, IndexedTo, Ready}

stretches_prop : (ops : List Operation) (xs : List Node) → IsProp (Stretches ops xs)
stretches_prop [] xs u w t = tt
stretches_prop (o ∷ l) xs u w t = (
  le_prop u.0 w.0 t,
  is_set (Coded-set node_row.coded) _ _ u.1 w.1 t,
  stretches_prop l (drop o.count xs) u.2 w.2 t,
)

-- an operation has one entry
abbrev Placed : ℕ → List Entry → ℕ → Type 0
Placed n es i = (k : ℕ) × (k < n) × ((d : Entry) → (get_or es k d).position ≡ i)

placed_prop : (n : ℕ) (es : List Entry) (i : ℕ) → ((j k : ℕ) (d : Entry) → j < k → k < n → (get_or es j d).position ≡ (get_or es k d).position → ⊥) → IsProp (Placed n es i)
placed_prop n es i once u w =
    ap back (Σ_prop_path {A = ℕ} {B = At} (λ k p q t. (le_prop p.0 q.0 t, λ d. ℕ_set _ _ (p.1 d) (q.1 d) t)) {u = (u.0, (u.1, u.2))} {v = (w.0, (w.1, w.2))} (same (cases_order u.0 w.0)))
  where
    At : ℕ → Type 0
    At k = (k < n) × ((d : Entry) → (get_or es k d).position ≡ i)

    back : (k : ℕ) × At k → Placed n es i
    back x = (x.0, x.1.0, x.1.1)

    same : (u.0 ≡ w.0) ⊎ ((u.0 < w.0) ⊎ (w.0 < u.0)) → u.0 ≡ w.0
    same (inl e) = e
    same (inr (inl l)) = absurd (once u.0 w.0 no_entry l w.1 (u.2 no_entry ∙ sym (w.2 no_entry)))
    same (inr (inr l)) = absurd (once w.0 u.0 no_entry l u.1 (w.2 no_entry ∙ sym (u.2 no_entry)))

indexed_prop : (n : ℕ) (ops : List Operation) (es : List Entry) → IsProp (IndexedTo n ops es)
indexed_prop n ops es u w t = record {
  ascends = λ i j d l h. ≡_prop coded_bool _ false (u.ascends i j d l h) (w.ascends i j d l h) t;
  each = λ k d h. (le_prop (u.each k d h).0 (w.each k d h).0 t, Coded-set entry_row.coded _ _ (u.each k d h).1 (w.each k d h).1 t);
  all = λ i h. placed_prop n es i u.once (u.all i h) (w.all i h) t;
  once = λ j k d l h e. let p : u.once j k d l h e ≡ w.once j k d l h e = absurd (u.once j k d l h e) in p t;
}

ready_prop : (ops : List Operation) (xs : List Node) (es : List Entry) → IsProp (Ready ops xs es)
ready_prop ops xs es u w t = record {
  stretches = stretches_prop ops xs u.stretches w.stretches t;
  long = ℕ_set _ _ u.long w.long t;
  indexed = indexed_prop (length ops) ops es u.indexed w.indexed t;
}

pub ready : (l : OrderedList) → Ready l.operations.now l.nodes.now l.entries.now
ready l = ∥∥₁_elim l.ready (ready_prop l.operations.now l.nodes.now l.entries.now) (λ h. h)
