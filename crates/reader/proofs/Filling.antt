-- A table filled from its front, one element after another.
use Rattle.std.proofs.Common.{◌≡◌, ℕ, suc, ◌+◌, ◌<◌, ◌≤◌, true, List, [], ◌∷◌, ◌++◌, length, take, drop, set, is_some, Some, None, Option, sym, refl, ap, ◌∙◌, subst, append_assoc, arith, length-set, ne_eqb}
use Rattle.std.proofs.lemmas.List.{take_more_set, drop-set-lt, drop-drop}
use Rattle.std.proofs.lemmas.Bool.{and_parts, false≢true}
use Rattle.std.specs.List.{filter_map, list_all}
use Rattle.codec.specs.declared.spelling.Record.{Record}
use Rattle.records.specs.declared.nodes.Node.{Node}
use Rattle.records.specs.declared.operations.Operation.{Operation}
use Rattle.codec.specs.Fields.{node_of, operation_of}
use Rattle.reader.specs.Due.{due_records}
use Rattle.reader.specs.Reading.{spells, misformed_from, operations_in, nodes_in}
use Rattle.reader.proofs.Due.{operation_due, node_due, operations_due, nodes_due, all_spell}

-- n elements of `all` stand in `now`, `rest` is to come, and behind them is what `table` held
pub record Filled {X : Type 0} (all table now' : List X) (n : ℕ) (rest : List X) : Type 0 where
  pub long : length now' ≡ length table
  pub front : take n now' ++ rest ≡ all
  pub behind : drop n now' ≡ drop n table
  pub room : n + length rest ≤ length table

-- one turn of a loop that fills: the next element is written
pub filled_turn : {X : Type 0} {all table now' : List X} {n : ℕ} {x : X} {rest later : List X} → rest ≡ x ∷ later → Filled all table now' n rest → Filled all table (set now' n x) (n + 1) later
filled_turn {X} {all} {table} {now'} {n} {x} {rest} {later} e f =
    let g : Filled all table now' n (x ∷ later) = rw e at f in
    let room : n + suc (length later) ≤ length table = g.room in
    let lt : n < length now' = rw g.long (omega arith) in
    record {
      long = simp length-set g.long;
      front = ap (λ l. l ++ later) (take_more_set now' n x lt) ∙ append_assoc (take n now') (x ∷ []) later ∙ g.front;
      behind = drop-set-lt (n + 1) now' n x (omega arith) ∙ sym (drop-drop 1 n now') ∙ ap (drop 1) g.behind ∙ drop-drop 1 n table;
      room = omega arith;
    }

-- while an element is to come there is room for it
pub filled_room : {X : Type 0} {all table now' : List X} {n : ℕ} {x : X} {rest later : List X} → rest ≡ x ∷ later → Filled all table now' n rest → n < length now'
filled_room {X} {all} {table} {now'} {n} {x} {rest} {later} e f =
    let g : Filled all table now' n (x ∷ later) = rw e at f in
    let room : n + suc (length later) ≤ length table = g.room in
    rw g.long (omega arith)

some_of : {X : Type 0} (x : Option X) → is_some x ≡ true → (y : X) × (x ≡ Some y)
some_of None e = absurd (false≢true e)
some_of (Some y) e = (y, refl)

-- the tables filled from well-formed records, of which `left` are to come
pub record Fills (all_operations operations now_operations : List Operation) (all_nodes nodes now_nodes : List Node) (i j : ℕ) (left : List (ℕ × Record × ℕ)) : Type 0 where
  pub formed : list_all (λ x. spells x.0 x.1) left ≡ true
  pub filled_operations : Filled all_operations operations now_operations i (filter_map operation_due left)
  pub filled_nodes : Filled all_nodes nodes now_nodes j (filter_map node_due left)

-- before the first record
pub nothing_filled : {operations : List Operation} {nodes : List Node} {left : List (ℕ × Record × ℕ)} (due : ℕ) (rs : List Record) → left ≡ due_records due rs → misformed_from due 0 rs ≡ None
    → length (operations_in due rs) ≤ length operations → length (nodes_in due rs) ≤ length nodes → Fills (operations_in due rs) operations operations (nodes_in due rs) nodes nodes 0 0 left
nothing_filled due rs e m fit fits = rw e (record {
  formed = all_spell due 0 rs m;
  filled_operations = rw (operations_due due rs) (record { long = refl; front = refl; behind = refl; room = omega (arith, fit) });
  filled_nodes = rw (nodes_due due rs) (record { long = refl; front = refl; behind = refl; room = omega (arith, fits) });
})

module _ {all_operations operations now_operations : List Operation} {all_nodes nodes now_nodes : List Node} {i j : ℕ} {left rest : List (ℕ × Record × ℕ)} {due follow : ℕ} {r : Record} (f : Fills all_operations operations now_operations all_nodes nodes now_nodes i j left) (step : left ≡ (due, r, follow) ∷ rest) where
  here : Fills all_operations operations now_operations all_nodes nodes now_nodes i j ((due, r, follow) ∷ rest)
  here = subst (Fills all_operations operations now_operations all_nodes nodes now_nodes i j) step f

  spelt : (spells due r ≡ true) × (list_all (λ x. spells x.0 x.1) rest ≡ true)
  spelt = and_parts _ _ here.formed

  pub is_operation : due ≡ 0 → (o : Operation) × (operation_of r ≡ Some o)
  is_operation z = some_of (operation_of r) (rw z at spelt.0)

  pub is_node : (due ≡ 0 → ⊥) → (x : Node) × (node_of r ≡ Some x)
  is_node z = some_of (node_of r) (rw (ne_eqb due 0 z) at spelt.0)

  pub operation_written : (o : Operation) → due ≡ 0 → operation_of r ≡ Some o → (i < length now_operations) × Fills all_operations operations (set now_operations i o) all_nodes nodes now_nodes (i + 1) j rest
  operation_written o z e =
      let p : filter_map operation_due ((due, r, follow) ∷ rest) ≡ o ∷ filter_map operation_due rest = rw (z, e) refl in
      let q : filter_map node_due ((due, r, follow) ∷ rest) ≡ filter_map node_due rest = rw z refl in
      (filled_room p here.filled_operations, record { formed = spelt.1; filled_operations = filled_turn p here.filled_operations; filled_nodes = rw (← q) here.filled_nodes })

  pub node_written : (x : Node) → (due ≡ 0 → ⊥) → node_of r ≡ Some x → (j < length now_nodes) × Fills all_operations operations now_operations all_nodes nodes (set now_nodes j x) i (j + 1) rest
  node_written x z e =
      let w = ne_eqb due 0 z in
      let p : filter_map operation_due ((due, r, follow) ∷ rest) ≡ filter_map operation_due rest = rw w refl in
      let q : filter_map node_due ((due, r, follow) ∷ rest) ≡ x ∷ filter_map node_due rest = rw (w, e) refl in
      (filled_room q here.filled_nodes, record { formed = spelt.1; filled_operations = rw (← p) here.filled_operations; filled_nodes = filled_turn q here.filled_nodes })
