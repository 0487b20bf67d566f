-- Changes that are added one after another to the tables of a list.
use Rattle.std.proofs.Common.{◌≡◌, ℕ, suc, ◌+◌, ◌^◌, ◌<◌, Bool, true, false, cond, eqb, List, [], ◌∷◌, ◌++◌, length, set, sym, refl, ap, ◌∙◌, ap₂, true≢false, append_assoc, add-zero, add-one, arith, length-append}
use Rattle.std.proofs.lemmas.Bool.{cond-false, ne_eqb}
use Rattle.records.specs.declared.nodes.Node.{Node}
use Rattle.records.specs.declared.operations.Code.{Code}
use Rattle.records.specs.declared.operations.Code.TheVariants.{Delete, ReplaceNode}
use Rattle.records.specs.declared.operations.Operation.{Operation}
use Rattle.document.specs.Tree.{Forest, nil, node}
use Rattle.document.specs.Listing.{rows}
use Rattle.changes.specs.Changes.{Change, ◌⊕◌}
use Rattle.changes.proofs.Rows.{⊕-nil}
use Rattle.changes.specs.Reduced.{insertion, deletion_of}
use Rattle.changes.specs.Tables.{operation_rows, node_rows}
use Rattle.changes.specs.Tests.{is_empty}
use Rattle.walk.specs.Written.{written}
use Rattle.walk.proofs.Writing.{written-++}
use Rattle.reduce.specs.declared.tables.Tally.{Tally}
use Rattle.reduce.specs.Output.{Output, output, tally, operation_row, with_change, with_changes, Adds, RoomFor}

pub with_changes-++ : (s : Output) (a b : List Change) → with_changes s (a ++ b) ≡ with_changes (with_changes s a) b
with_changes-++ s [] b = refl
with_changes-++ s (o ∷ a) b = with_changes-++ (with_change s o) a b

pub node_rows-++ : (a b : List Change) → node_rows (a ++ b) ≡ node_rows a ++ node_rows b
node_rows-++ [] b = refl
node_rows-++ (o ∷ a) b = ap (λ (l : List Node). rows 0 o.nodes ++ l) (node_rows-++ a b) ∙ sym (append_assoc (rows 0 o.nodes) (node_rows a) (node_rows b))

-- the tallies of one list behind another
pub used_is : (s : Output) (l : List Change) → (with_changes s l).used ≡ tally (s.used.operations + length l) (s.used.nodes + length (node_rows l))
used_is s [] = ap₂ tally (sym (add-zero s.used.operations)) (sym (add-zero s.used.nodes))
used_is s (o ∷ l) =
    used_is (with_change s o) l
    ∙ ap₂ tally (let e : s.used.operations + 1 + length l ≡ s.used.operations + suc (length l) = omega arith in e)
    (let e : s.used.nodes + length (rows 0 o.nodes) + length (node_rows l) ≡ s.used.nodes + length (rows 0 o.nodes ++ node_rows l) = omega (arith, length-append (rows 0 o.nodes) (node_rows l)) in e)

module _ (os : List Operation) (ns : List Node) (t : Tally) where
  pub adds_used : (os' : List Operation) (ns' : List Node) (t' : Tally) (l : List Change) → Adds os ns t os' ns' t' l → t' ≡ tally (t.operations + length l) (t.nodes + length (node_rows l))
  adds_used os' ns' t' l e = ap (λ (s : Output). s.used) e ∙ used_is (output os ns t) l

  -- one list behind another
  pub adds_then : (os1 os2 : List Operation) (ns1 ns2 : List Node) (t1 t2 : Tally) (a b : List Change) → Adds os ns t os1 ns1 t1 a → Adds os1 ns1 t1 os2 ns2 t2 b → Adds os ns t os2 ns2 t2 (a ++ b)
  adds_then os1 os2 ns1 ns2 t1 t2 a b e f = f ∙ (ap (λ (s : Output). with_changes s b) e ∙ sym (with_changes-++ (output os ns t) a b))

  pub room_first : (a b : List Change) → RoomFor t (a ++ b) → RoomFor t a
  room_first a b h = (omega (arith, h.0, length-append a b), omega (arith, h.1, ap length (node_rows-++ a b), length-append (node_rows a) (node_rows b)))

  pub room_then : (os1 : List Operation) (ns1 : List Node) (t1 : Tally) (a b : List Change) → Adds os ns t os1 ns1 t1 a → RoomFor t (a ++ b) → RoomFor t1 b
  room_then os1 ns1 t1 a b e h =
      let u = adds_used os1 ns1 t1 a e in
      (omega (arith, h.0, length-append a b, ap (λ (q : Tally). q.operations) u), omega (arith, h.1, ap length (node_rows-++ a b), length-append (node_rows a) (node_rows b), ap (λ (q : Tally). q.nodes) u))

  -- an insertion of nodes that may be none
  pub insertion_room : (x : ℕ) (c : Code) (f : Forest) → RoomFor t (insertion x c f) → (t.nodes + length (rows 0 f) < 2 ^ 32) × (t.operations < 2 ^ 32)
  insertion_room x c nil h = (h.1, omega (arith, h.0))
  insertion_room x c (node r as' k f) h = (omega (arith, h.1, length-append (rows 0 (node r as' k f)) []), omega (arith, h.0))

  pub insertion_none : (x : ℕ) (c : Code) (f : Forest) (ns1 : List Node) (m : ℕ) → length (rows 0 f) ≡ 0 → ns1 ≡ written ns t.nodes (rows 0 f) → m ≡ t.nodes → Adds os ns t os ns1 (tally t.operations m) (insertion x c f)
  insertion_none x c nil ns1 m z e1 e2 = ap₂ (λ (a : List Node) (b : ℕ). output os a (tally t.operations b)) e1 e2
  insertion_none x c (node r as' k f) ns1 m z e1 e2 = absurd (omega arith)

  -- one change with its nodes
  pub one_change : (o : Change) (os1 : List Operation) (ns1 : List Node) (n m k : ℕ) → k ≡ length (rows 0 o.nodes)
      → os1 ≡ set os t.operations (record { target = o.target; code = o.code; count = k; name = o.name; value = o.value })
      → ns1 ≡ written ns t.nodes (rows 0 o.nodes) → n ≡ t.operations + 1 → m ≡ t.nodes + length (rows 0 o.nodes) → Adds os ns t os1 ns1 (tally n m) (o ∷ [])
  one_change o os1 ns1 n m k ek eo en e1 e2 =
      ap₂ (λ (a : List Operation) (b : List Node). output a b (tally n m)) (eo ∙ ap (λ (j : ℕ). set os t.operations (record { target = o.target; code = o.code; count = j; name = o.name; value = o.value })) ek) en
      ∙ ap₂ (λ (a b : ℕ). output (set os t.operations (operation_row o)) (written ns t.nodes (rows 0 o.nodes)) (tally a b)) e1 e2

  pub insertion_some : (x : ℕ) (c : Code) (f : Forest) (os1 : List Operation) (ns1 : List Node) (n m k : ℕ) → 0 < length (rows 0 f) → k ≡ length (rows 0 f)
      → os1 ≡ set os t.operations (record { target = x; code = c; count = k; name = 0; value = 0 })
      → ns1 ≡ written ns t.nodes (rows 0 f) → n ≡ t.operations + 1 → m ≡ t.nodes + length (rows 0 f) → Adds os ns t os1 ns1 (tally n m) (insertion x c f)
  insertion_some x c nil os1 ns1 n m k z ek eo en e1 e2 = absurd (omega arith)
  insertion_some x c (node r as' q f) os1 ns1 n m k z ek eo en e1 e2 = one_change (record { target = x; code = c; nodes = node r as' q f; name = 0; value = 0 }) os1 ns1 n m k ek eo en e1 e2

  -- a node that goes
  pub departure_room : (x : ℕ) (f : Forest) → RoomFor t (deletion_of x (is_empty f) ++ insertion x ReplaceNode f) → (t.nodes + length (rows 0 f) < 2 ^ 32) × (t.operations < 2 ^ 32)
  departure_room x nil h = (h.1, omega (arith, h.0))
  departure_room x (node r as' k f) h = (omega (arith, h.1, length-append (rows 0 (node r as' k f)) []), omega (arith, h.0))

  pub departure_added : (x : ℕ) (f : Forest) (os1 : List Operation) (ns1 : List Node) (n m k : ℕ) (c : Code) → k ≡ length (rows 0 f) → c ≡ cond (eqb k 0) Delete ReplaceNode
      → os1 ≡ set os t.operations (record { target = x; code = c; count = k; name = 0; value = 0 })
      → ns1 ≡ written ns t.nodes (rows 0 f) → n ≡ t.operations + 1 → m ≡ t.nodes + length (rows 0 f) → Adds os ns t os1 ns1 (tally n m) (deletion_of x (is_empty f) ++ insertion x ReplaceNode f)
  departure_added x nil os1 ns1 n m k c ek ec eo en e1 e2 =
      let z : c ≡ Delete = ec ∙ ap (λ (j : ℕ). cond (eqb j 0) Delete ReplaceNode) ek in
      one_change (record { target = x; code = Delete; nodes = nil; name = 0; value = 0 }) os1 ns1 n m k ek
      (eo ∙ ap (λ (i : Code). set os t.operations (record { target = x; code = i; count = k; name = 0; value = 0 })) z) en e1 e2
  departure_added x (node r as' q f) os1 ns1 n m k c ek ec eo en e1 e2 =
      let z : c ≡ ReplaceNode = ec ∙ cond-false (eqb k 0) Delete ReplaceNode (ne_eqb k 0 (λ w. omega (arith, w, ek))) in
      one_change (record { target = x; code = ReplaceNode; nodes = node r as' q f; name = 0; value = 0 }) os1 ns1 n m k ek
      (eo ∙ ap (λ (i : Code). set os t.operations (record { target = x; code = i; count = k; name = 0; value = 0 })) z) en e1 e2

  -- a change without nodes, whatever the nodes are
  pub plain_change : (o : Change) → o.nodes ≡ nil → (os1 : List Operation) (n : ℕ) → os1 ≡ set os t.operations (record { target = o.target; code = o.code; count = 0; name = o.name; value = o.value })
      → n ≡ t.operations + 1 → Adds os ns t os1 ns (tally n t.nodes) (o ∷ [])
  plain_change o z os1 n eo e1 =
      one_change o os1 ns n t.nodes 0 (ap (λ (f : Forest). length (rows 0 f)) (sym z)) eo (ap (λ (f : Forest). written ns t.nodes (rows 0 f)) (sym z)) e1
      (sym (add-zero t.nodes) ∙ ap (λ (f : Forest). t.nodes + length (rows 0 f)) (sym z))

-- what is added, as tables
pub added_is : (s : Output) (l : List Change)
    → with_changes s l ≡ output (written s.operations s.used.operations (operation_rows l)) (written s.nodes s.used.nodes (node_rows l)) (tally (s.used.operations + length l) (s.used.nodes + length (node_rows l)))
added_is s [] = ap₂ (λ (a b : ℕ). output s.operations s.nodes (tally a b)) (sym (add-zero s.used.operations)) (sym (add-zero s.used.nodes))
added_is s (o ∷ l) =
    let x : List Node = rows 0 o.nodes in
    added_is (with_change s o) l
    ∙ (ap₂ (λ (a : List Operation) (b : List Node). output a b (tally (s.used.operations + 1 + length l) (s.used.nodes + length x + length (node_rows l))))
    (ap (λ (i : ℕ). written (set s.operations s.used.operations (operation_row o)) i (operation_rows l)) (add-one s.used.operations)) (written-++ s.nodes s.used.nodes x (node_rows l))
    ∙ ap₂ (λ (a b : ℕ). output (written s.operations s.used.operations (operation_row o ∷ operation_rows l)) (written s.nodes s.used.nodes (x ++ node_rows l)) (tally a b))
    (let e : s.used.operations + 1 + length l ≡ s.used.operations + suc (length l) = omega arith in e)
    (let e : s.used.nodes + length x + length (node_rows l) ≡ s.used.nodes + length (x ++ node_rows l) = omega (arith, length-append x (node_rows l)) in e))

-- groups that are gathered end in nothing
pub gathered_one : (x : ℕ) (c : Code) (f : Forest) → insertion x c f ≡ insertion x c (f ⊕ nil)
gathered_one x c f = ap (insertion x c) (sym (⊕-nil f))

pub gathered_two : (x : ℕ) (c : Code) (f g : Forest) → insertion x c (f ⊕ g) ≡ insertion x c (f ⊕ (g ⊕ nil))
gathered_two x c f g = ap (λ (q : Forest). insertion x c (f ⊕ q)) (sym (⊕-nil g))

pub gathered_unless : (b : Bool) → b ≡ false → (x : ℕ) (c : Code) (f g h : Forest) → cond b [] (insertion x c (f ⊕ (g ⊕ h))) ≡ insertion x c (f ⊕ (g ⊕ (h ⊕ nil)))
gathered_unless true e x c f g h = absurd (true≢false e)
gathered_unless false e x c f g h = ap (λ (q : Forest). insertion x c (f ⊕ (g ⊕ q))) (sym (⊕-nil h))
