-- Records and the tables that they are read into determine each other.
use Rattle.std.proofs.Common.{◌≡◌, ℕ, zero, suc, ◌+◌, ◌-◌, ◌≤◌, Bool, true, false, cond, eqb, ltb, List, [], ◌∷◌, ◌++◌, length, take, drop, is_some, Some, None, Option, sym, refl, ap, ◌∙◌, arith, ltb-false, ne_eqb}
use Rattle.codec.specs.declared.spelling.Record.{Record}
use Rattle.records.specs.Formed.{kind_of}
use Rattle.codec.specs.Fields.{node_of, operation_of}
use Rattle.codec.proofs.Spelled.{some_none, node_back, operation_back}
use Rattle.reader.specs.Reading.{structure_from, misformed_from, and_some, operations_in, nodes_in}
use Rattle.reader.specs.Layout.{document_records, list_records}

pub due_more : (d : ℕ) → eqb (suc d) 0 ≡ false
due_more d = ne_eqb (suc d) 0 (λ e. absurd (omega arith))

pub one_less : (d : ℕ) → suc d - 1 ≡ d
one_less d = omega arith

-- where nodes are due, one record on
module _ (d n : ℕ) (r : Record) (rs : List Record) where
  pub structure_suc : structure_from (suc d) n (r ∷ rs) ≡ structure_from d (n + 1) rs
  structure_suc = rw (due_more d, one_less d)

  pub misformed_suc : misformed_from (suc d) n (r ∷ rs) ≡ cond (is_some (node_of r)) (misformed_from d (n + 1) rs) (Some n)
  misformed_suc = rw (due_more d, one_less d)

  pub operations_suc : operations_in (suc d) (r ∷ rs) ≡ operations_in d rs
  operations_suc = rw (due_more d, one_less d)

  pub nodes_suc : nodes_in (suc d) (r ∷ rs) ≡ and_some (node_of r) (nodes_in d rs)
  nodes_suc = rw (due_more d, one_less d)

-- one record of well-formed records
pub record_step : {Y : Type 0} (n : ℕ) (x : Option Y) (later : Option ℕ) → cond (is_some x) later (Some n) ≡ None → (y : Y) × (x ≡ Some y) × (later ≡ None)
record_step n None later e = absurd (some_none n e)
record_step n (Some y) later e = (y, refl, e)

-- every well-formed record is an operation or a node
pub counted : (due n : ℕ) (rs : List Record) → misformed_from due n rs ≡ None → length (operations_in due rs) + length (nodes_in due rs) ≡ length rs
counted due n [] m = refl
counted zero n (r ∷ rs) m =
    let s = record_step n (operation_of r) (misformed_from r.link (n + 1) rs) m in
    rw s.1 (omega (arith, counted r.link (n + 1) rs s.2))
counted (suc d) n (r ∷ rs) m =
    let s = record_step n (node_of r) (misformed_from d (n + 1) rs) (sym (misformed_suc d n r rs) ∙ m) in
    let o = ap length (operations_suc d n r rs) in
    let e = ap length (nodes_suc d n r rs ∙ ap (λ x. and_some x (nodes_in d rs)) s.1) in
    omega (arith, o, e, counted d (n + 1) rs s.2)

-- where nodes are due to the end, there is no operation
pub no_operations : (due : ℕ) (rs : List Record) → length rs ≤ due → operations_in due rs ≡ []
no_operations due [] h = refl
no_operations zero (r ∷ rs) h = absurd (omega arith)
no_operations (suc d) (r ∷ rs) h = operations_suc d 0 r rs ∙ no_operations d rs (omega arith)

pub all_nodes : (due n : ℕ) (rs : List Record) → length rs ≤ due → misformed_from due n rs ≡ None → length (nodes_in due rs) ≡ length rs
all_nodes due n rs h m = omega (arith, counted due n rs m, ap length (no_operations due rs h))

-- the nodes of well-formed records that are all nodes have those records
pub nodes_back : (due n : ℕ) (rs : List Record) → length rs ≤ due → misformed_from due n rs ≡ None → document_records (nodes_in due rs) ≡ rs
nodes_back due n [] h m = refl
nodes_back zero n (r ∷ rs) h m = absurd (omega arith)
nodes_back (suc d) n (r ∷ rs) h m =
    let s = record_step n (node_of r) (misformed_from d (n + 1) rs) (sym (misformed_suc d n r rs) ∙ m) in
    ap document_records (nodes_suc d n r rs ∙ ap (λ x. and_some x (nodes_in d rs)) s.1)
    ∙ (λ i. node_back r s.0 s.1 i ∷ nodes_back d (n + 1) rs (omega arith) s.2 i)

-- no operation counts past the end
pub built : (n : ℕ) (r : Record) (rs : List Record) → structure_from zero n (r ∷ rs) ≡ None → (r.link ≤ length rs) × (structure_from r.link (n + 1) rs ≡ None)
built n r rs s = go (ltb (length rs) r.link) refl (is_some (kind_of r.tag)) refl
  where
    go : (b : Bool) → ltb (length rs) r.link ≡ b → (k : Bool) → is_some (kind_of r.tag) ≡ k → (r.link ≤ length rs) × (structure_from r.link (n + 1) rs ≡ None)
    go false e false k = (ltb-false (length rs) r.link e, rw (k, e) at s)
    go true e false k = absurd (some_none n (rw (k, e) at s))
    go false e true k = absurd (some_none n (rw k at s))
    go true e true k = absurd (some_none n (rw k at s))

-- the tables of well-built, well-formed records have those records
pub tables_back : (due n : ℕ) (rs : List Record) → due ≤ length rs → structure_from due n rs ≡ None → misformed_from due n rs ≡ None
    → document_records (take due (nodes_in due rs)) ++ list_records (operations_in due rs) (drop due (nodes_in due rs)) ≡ rs
tables_back zero n [] h s m = refl
tables_back (suc d) n [] h s m = absurd (omega arith)
tables_back zero n (r ∷ rs) h s m =
    let x = record_step n (operation_of r) (misformed_from r.link (n + 1) rs) m in
    let b = built n r rs s in
    let back = operation_back r x.0 x.1 in
    let c : x.0.count ≡ r.link = ap (λ q. q.link) back in
    ap (λ o. list_records (and_some o (operations_in r.link rs)) (nodes_in r.link rs)) x.1
    ∙ (λ i. back i ∷ (document_records (take (c i) (nodes_in r.link rs)) ++ list_records (operations_in r.link rs) (drop (c i) (nodes_in r.link rs))))
    ∙ ap (λ l. r ∷ l) (tables_back r.link (n + 1) rs b.0 b.1 x.2)
tables_back (suc d) n (r ∷ rs) h s m =
    let x = record_step n (node_of r) (misformed_from d (n + 1) rs) (sym (misformed_suc d n r rs) ∙ m) in
    let e = nodes_suc d n r rs ∙ ap (λ y. and_some y (nodes_in d rs)) x.1 in
    (λ i. document_records (take (suc d) (e i)) ++ list_records (operations_suc d n r rs i) (drop (suc d) (e i)))
    ∙ (λ i. node_back r x.0 x.1 i ∷ tables_back d (n + 1) rs (omega arith) (sym (structure_suc d n r rs) ∙ s) x.2 i)
