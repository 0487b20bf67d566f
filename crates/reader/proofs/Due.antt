-- The tests on a file's records, over the records with what is due at each.
use Rattle.std.proofs.Common.{◌≡◌, ℕ, zero, suc, ◌+◌, ◌-◌, Bool, true, false, cond, ◌==◌, ◌&&◌, not, List, [], ◌∷◌, length, Some, None, Option, sym, refl, ap, ◌∙◌}
use Rattle.std.specs.List.{filter, filter_map, cons_option, list_all, position, position_from}
use Rattle.std.proofs.lemmas.Iterator.Adapters.{position_from-zero}
use Rattle.codec.specs.declared.spelling.Record.{Record}
use Rattle.records.specs.declared.nodes.Node.{Node}
use Rattle.records.specs.declared.operations.Operation.{Operation}
use Rattle.codec.proofs.Spelled.{some_none}
use Rattle.codec.specs.Fields.{node_of, operation_of}
use Rattle.reader.specs.Due.{due_records}
use Rattle.reader.specs.Reading.{due_after, ill_built, structure_from, spells, misformed_from, and_some, operations_in, nodes_in}
use Rattle.reader.proofs.Back.{due_more, one_less, misformed_suc, record_step}

pub length_due_records : (due : ℕ) (rs : List Record) → length (due_records due rs) ≡ length rs
length_due_records due [] = refl
length_due_records due (r ∷ rs) = ap suc (length_due_records (due_after due r) rs)

structure_place : (due n : ℕ) (rs : List Record) → position_from (λ x. ill_built x.0 x.1 x.2) n (due_records due rs) ≡ structure_from due n rs
structure_place due n [] = refl
structure_place due n (r ∷ rs) = ap (cond (ill_built due r (length rs)) (Some n)) (structure_place (due_after due r) (n + 1) rs)

pub structure_of_due : (due : ℕ) (rs : List Record) → position (λ x. ill_built x.0 x.1 x.2) (due_records due rs) ≡ structure_from due 0 rs
structure_of_due due rs = position_from-zero _ (due_records due rs) ∙ structure_place due 0 rs

otherwise : {X : Type 0} (b : Bool) (x y : X) → cond (not b) x y ≡ cond b y x
otherwise true x y = refl
otherwise false x y = refl

misformed_place : (due n : ℕ) (rs : List Record) → position_from (λ x. not (spells x.0 x.1)) n (due_records due rs) ≡ misformed_from due n rs
misformed_place due n [] = refl
misformed_place due n (r ∷ rs) = otherwise (spells due r) (Some n) _ ∙ ap (λ x. cond (spells due r) x (Some n)) (misformed_place (due_after due r) (n + 1) rs)

pub misformed_of_due : (due : ℕ) (rs : List Record) → position (λ x. not (spells x.0 x.1)) (due_records due rs) ≡ misformed_from due 0 rs
misformed_of_due due rs = position_from-zero _ (due_records due rs) ∙ misformed_place due 0 rs

-- in well-formed records an operation is where no node is due
pub operations_of_due : (due n : ℕ) (rs : List Record) → misformed_from due n rs ≡ None → length (filter (λ x. x.0 == 0) (due_records due rs)) ≡ length (operations_in due rs)
operations_of_due due n [] m = refl
operations_of_due zero n (r ∷ rs) m =
    let s = record_step n (operation_of r) (misformed_from r.link (n + 1) rs) m in
    rw s.1 (ap suc (operations_of_due r.link (n + 1) rs s.2))
operations_of_due (suc d) n (r ∷ rs) m =
    let s = record_step n (node_of r) (misformed_from d (n + 1) rs) (sym (misformed_suc d n r rs) ∙ m) in
    rw (due_more d, one_less d) (operations_of_due d (n + 1) rs s.2)

abbrev pub operation_due : ℕ × Record × ℕ → Option Operation
operation_due x = cond (x.0 == 0) (operation_of x.1) None

abbrev pub node_due : ℕ × Record × ℕ → Option Node
node_due x = cond (x.0 == 0) None (node_of x.1)

put : {X : Type 0} (x : Option X) {xs ys : List X} → xs ≡ ys → cons_option x xs ≡ and_some x ys
put None e = e
put (Some x) e = ap (λ l. x ∷ l) e

pub operations_due : (due : ℕ) (rs : List Record) → filter_map operation_due (due_records due rs) ≡ operations_in due rs
operations_due due [] = refl
operations_due zero (r ∷ rs) = put (operation_of r) (operations_due r.link rs)
operations_due (suc d) (r ∷ rs) = rw (due_more d) (operations_due (suc d - 1) rs)

pub nodes_due : (due : ℕ) (rs : List Record) → filter_map node_due (due_records due rs) ≡ nodes_in due rs
nodes_due due [] = refl
nodes_due zero (r ∷ rs) = nodes_due r.link rs
nodes_due (suc d) (r ∷ rs) = rw (due_more d) (put (node_of r) (nodes_due (suc d - 1) rs))

pub all_spell : (due n : ℕ) (rs : List Record) → misformed_from due n rs ≡ None → list_all (λ x. spells x.0 x.1) (due_records due rs) ≡ true
all_spell due n [] m = refl
all_spell due n (r ∷ rs) m = go (spells due r) m (all_spell (due_after due r) (n + 1) rs)
  where
    go : (b : Bool) → cond b (misformed_from (due_after due r) (n + 1) rs) (Some n) ≡ None → (misformed_from (due_after due r) (n + 1) rs ≡ None → list_all (λ x. spells x.0 x.1) (due_records (due_after due r) rs) ≡ true)
        → b && list_all (λ x. spells x.0 x.1) (due_records (due_after due r) rs) ≡ true
    go true e later = later e
    go false e later = absurd (some_none n e)
