-- What each passed test of a table says.
use Rattle.std.proofs.Common.{◌≡◌, ℕ, ◌+◌, ◌≤◌, Bool, true, false, cond, ◌&&◌, eqb, ltb, List, [], ◌∷◌, length, Some, None, Ok, Option, Result, refl, ap₂, arith}
use Rattle.std.proofs.lemmas.Bool.{eqb-true, and_parts, ltb-false}
use Rattle.records.specs.Formed.{formed_node}
use Rattle.records.specs.declared.nodes.Node.{Node}
use Rattle.faults.specs.declared.DocumentFault.{DocumentFault}
use Rattle.faults.specs.declared.DocumentFault.TheVariants.{Misformed, IdentifierTwice, OutOfOrder, NameTwice, NoRoom}
use Rattle.document.specs.Tree.{one}
use Rattle.document.specs.Table.{misformed_from, seen, repeat_at, repeat_from, identifier_key, name_key, out_of_order, over_room, at_fault, table_test}
use Rattle.document.proofs.Counting.{key_is, count_key, count_rows}

pub some_none : {A : Type 0} (a : A) → Some a ≡ None → ⊥
some_none a e = let z : ◌≡◌ {A = ℕ} 0 1 = cc in omega arith

-- a test over a table that names no place: the node here passes, and so do those behind it
pub passed : (b : Bool) (later : Option ℕ) (n : ℕ) → cond b later (Some n) ≡ None → (b ≡ true) × (later ≡ None)
passed true later n h = (refl, h)
passed false later n h = absurd (some_none n h)

pub passed_not : (b : Bool) (later : Option ℕ) (n : ℕ) → cond b (Some n) later ≡ None → (b ≡ false) × (later ≡ None)
passed_not true later n h = absurd (some_none n h)
passed_not false later n h = (refl, h)

-- all nodes of a table are formed
abbrev pub AllFormed : List Node → Type 0
AllFormed [] = Unit {0}
AllFormed (x ∷ xs) = (formed_node x ≡ true) × AllFormed xs

pub all_formed : (n : ℕ) (xs : List Node) → misformed_from n xs ≡ None → AllFormed xs
all_formed n [] h = tt
all_formed n (x ∷ xs) h = let u = passed (formed_node x) (misformed_from (n + 1) xs) n h in (u.0, all_formed (n + 1) xs u.1)

-- no key stands twice, in what was seen before and the table together
pub key_once : (key : Node → Option (ℕ × ℕ)) (before : List (ℕ × ℕ)) (n : ℕ) (xs : List Node) → repeat_from key before n xs ≡ None
    → (k : ℕ × ℕ) → one (seen k before) + count_key key k xs ≤ 1
key_once key before n [] h k = go (seen k before)
  where
    go : (b : Bool) → one b + 0 ≤ 1
    go true = omega arith
    go false = omega arith
key_once key before n (x ∷ xs) h k = step (key x) h (λ b. key_once key b (n + 1) xs)
  where
    step : (o : Option (ℕ × ℕ)) → repeat_at o before n (λ b. repeat_from key b (n + 1) xs) ≡ None
        → ((b : List (ℕ × ℕ)) → repeat_from key b (n + 1) xs ≡ None → (j : ℕ × ℕ) → one (seen j b) + count_key key j xs ≤ 1)
        → one (seen k before) + (one (key_is o k) + count_key key k xs) ≤ 1
    step None g later = omega (arith, later before g k)
    step (Some j) g later = same (eqb j.0 k.0 && eqb j.1 k.1) refl
      where
        u : (seen j before ≡ false) × (repeat_from key (j ∷ before) (n + 1) xs ≡ None)
        u = passed_not (seen j before) (repeat_from key (j ∷ before) (n + 1) xs) n g

        v : one (seen k (j ∷ before)) + count_key key k xs ≤ 1
        v = later (j ∷ before) u.1 k

        same : (b : Bool) → (eqb j.0 k.0 && eqb j.1 k.1) ≡ b
            → one (seen k before) + (one (eqb j.0 k.0 && eqb j.1 k.1) + count_key key k xs) ≤ 1
        same false e = let w = rw e at v in rw e (omega arith)
        same true e =
            let q = and_parts (eqb j.0 k.0) (eqb j.1 k.1) e in
            let i : j ≡ k = ap₂ (λ (a b : ℕ). (a, b)) (eqb-true j.0 k.0 q.0) (eqb-true j.1 k.1 q.1) in
            let s : seen k before ≡ false = rw i at u.0 in
            let w = rw e at v in rw (e, s) (omega arith)

-- no name stands at two attributes of one parent
pub names_once : (n : ℕ) (xs : List Node) → repeat_from name_key [] n xs ≡ None → (k : ℕ × ℕ) → count_key name_key k xs ≤ 1
names_once n xs h k = omega (arith, key_once name_key [] n xs h k)

-- identifiers as keys
pub identifier_keys : (t : ℕ) (xs : List Node) → count_key identifier_key (t, 0) xs ≡ count_rows t xs
identifier_keys t [] = refl
identifier_keys t (x ∷ xs) = rw (identifier_keys t xs, and_true (eqb x.id t))
  where
    and_true : (b : Bool) → (b && true) ≡ b
    and_true true = refl
    and_true false = refl

pub identifiers_once : (n : ℕ) (xs : List Node) → repeat_from identifier_key [] n xs ≡ None → (t : ℕ) → count_rows t xs ≤ 1
identifiers_once n xs h t = omega (arith, key_once identifier_key [] n xs h (t, 0), identifier_keys t xs)

-- what the five tests say of a table that passes
pub record Passed (room : ℕ) (xs : List Node) : Type 0 where
  pub formed : AllFormed xs
  pub identifiers : (t : ℕ) → count_rows t xs ≤ 1
  pub order : out_of_order xs ≡ None
  pub names : (k : ℕ × ℕ) → count_key name_key k xs ≤ 1
  pub fits : length xs ≤ room

no_fault : (o : Option ℕ) (fault : ℕ → DocumentFault) (later : Result (Unit {0}) DocumentFault) → at_fault o fault later ≡ Ok tt → (o ≡ None) × (later ≡ Ok tt)
no_fault None fault later h = (refl, h)
no_fault (Some n) fault later h = let z : ◌≡◌ {A = ℕ} 0 1 = cc in absurd (omega arith)

pub passing : (room : ℕ) (xs : List Node) → table_test room xs ≡ Ok tt → Passed room xs
unfolding table_test
passing room xs h =
    let a = no_fault (misformed_from 0 xs) Misformed _ h in
    let b = no_fault (repeat_from identifier_key [] 0 xs) IdentifierTwice _ a.1 in
    let c = no_fault (out_of_order xs) OutOfOrder _ b.1 in
    let d = no_fault (repeat_from name_key [] 0 xs) NameTwice _ c.1 in
    let e = no_fault (over_room room xs) NoRoom (Ok tt) d.1 in
    record {
      formed = all_formed 0 xs a.0;
      identifiers = identifiers_once 0 xs b.0;
      order = c.0;
      names = names_once 0 xs d.0;
      fits = ltb-false room (length xs) (passed_not (ltb room (length xs)) None room e.0).0;
    }
