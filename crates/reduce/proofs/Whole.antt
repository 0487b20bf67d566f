-- The whole reduced list, written into two tables.
use Rattle.std.proofs.Common.{◌≡◌, ◌<◌, ◌≤◌, Bool, true, false, ◌||◌, ltb, ◌⊎◌, List, [], ◌∷◌, length, Ok, Err, Result, sym, refl, ap, ◌∙◌, ap₂, inl, inr, zero-add, arith}
use Rattle.std.proofs.lemmas.Bool.{cond-true, cond-false, lt-ltb, le-ltb}
use Rattle.records.specs.declared.nodes.Node.{Node}
use Rattle.records.specs.declared.operations.Operation.{Operation}
use Rattle.reduce.specs.declared.tables.TableFault.{TableFault}
use Rattle.reduce.specs.declared.tables.TableFault.TheVariants.{TableShort}
use Rattle.changes.specs.Changes.{Change}
use Rattle.changes.specs.Tables.{operation_rows, node_rows}
use Rattle.walk.proofs.Writing.{written_all}
use Rattle.reduce.specs.declared.tables.Tally.{Tally}
use Rattle.reduce.specs.Output.{Output, output, tally, Adds, too_short, write_says, operations_after, nodes_after}
use Rattle.reduce.proofs.Adding.{added_is}

pub length_operation_rows : (l : List Change) → length (operation_rows l) ≡ length l
length_operation_rows [] = refl
length_operation_rows (o ∷ l) = omega (arith, length_operation_rows l)

-- what is answered and left where the list is l
pub record Written (os : List Operation) (ns : List Node) (l : List Change) (r : Result Tally TableFault) (os' : List Operation) (ns' : List Node) : Type 0 where
  pub value : r ≡ write_says os ns l
  pub operations : os' ≡ operations_after os ns l
  pub nodes : ns' ≡ nodes_after os ns l

module _ (l : List Change) (os : List Operation) (ns : List Node) where
  -- how much a list needs
  pub needed : (os0 os1 : List Operation) (ns0 ns1 : List Node) (t : Tally) → Adds os0 ns0 (tally 0 0) os1 ns1 t l → t ≡ tally (length (operation_rows l)) (length (node_rows l))
  needed os0 os1 ns0 ns1 t e =
      ap (λ (s : Output). s.used) (e ∙ added_is (output os0 ns0 (tally 0 0)) l)
      ∙ ap₂ tally (zero-add (length l) ∙ sym (length_operation_rows l)) (zero-add (length (node_rows l)))

  pub short : too_short os ns l ≡ true → Written os ns l (Err TableShort) os ns
  short h = record { value = sym (cond-true _ _ _ h); operations = sym (cond-true _ _ _ h); nodes = sym (cond-true _ _ _ h) }

  pub is_short : (t : Tally) → t ≡ tally (length (operation_rows l)) (length (node_rows l)) → (length os < t.operations) ⊎ ((t.operations ≤ length os) × (length ns < t.nodes)) → too_short os ns l ≡ true
  is_short t e (inl h) =
      ap (λ (b : Bool). b || ltb (length ns) (length (node_rows l))) (lt-ltb (length os) (length (operation_rows l)) (omega (arith, h, ap (λ (q : Tally). q.operations) e)))
  is_short t e (inr h) =
      ap₂ (λ (a b : Bool). a || b) (le-ltb (length os) (length (operation_rows l)) (omega (arith, h.0, ap (λ (q : Tally). q.operations) e)))
      (lt-ltb (length ns) (length (node_rows l)) (omega (arith, h.1, ap (λ (q : Tally). q.nodes) e)))

  pub filled : (os1 : List Operation) (ns1 : List Node) (t : Tally) → length (operation_rows l) ≤ length os → length (node_rows l) ≤ length ns → Adds os ns (tally 0 0) os1 ns1 t l
      → Written os ns l (Ok t) os1 ns1
  filled os1 ns1 t h k e =
      let n : too_short os ns l ≡ false = ap₂ (λ (a b : Bool). a || b) (le-ltb (length os) (length (operation_rows l)) h) (le-ltb (length ns) (length (node_rows l)) k) in
      let q = e ∙ added_is (output os ns (tally 0 0)) l in
      record {
        value = ap Ok (needed os os1 ns ns1 t e) ∙ sym (cond-false _ _ _ n);
        operations = ap (λ (s : Output). s.operations) q ∙ (written_all os (operation_rows l) h ∙ sym (cond-false _ _ _ n));
        nodes = ap (λ (s : Output). s.nodes) q ∙ (written_all ns (node_rows l) k ∙ sym (cond-false _ _ _ n));
      }
