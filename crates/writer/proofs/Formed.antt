-- The tests on tables, one operation on, and as the loops make them.
use Rattle.std.proofs.Common.{◌≡◌, ℕ, suc, ◌+◌, ◌-◌, ◌<◌, ◌≤◌, Bool, true, false, not, leb, List, [], ◌∷◌, ◌++◌, length, get_or, take, drop, is_some, Some, None, sym, refl, ap, ◌∙◌, arith, length-drop, le-ltb, lt-ltb, ne_eqb, leb-false, leb-true}
use Rattle.std.proofs.lemmas.List.{at_drop_more}
use Rattle.records.specs.declared.nodes.Node.{Node}
use Rattle.records.specs.declared.operations.Operation.{Operation}
use Rattle.records.specs.Formed.{formed_node}
use Rattle.document.specs.Table.{misformed_from}
use Rattle.changes.specs.Tables.{all_formed, miscounted_from, first_operation, misformed}
use Rattle.writer.specs.Scans.{counts_from, formed_with, misformed_list_from}

-- no node of a table is misformed exactly when all are formed
pub none_misformed : (n : ℕ) (xs : List Node) → is_some (misformed_from n xs) ≡ not (all_formed xs)
none_misformed n [] = refl
none_misformed n (x ∷ xs) = go (formed_node x) refl (none_misformed (n + 1) xs)
  where
    go : (b : Bool) → formed_node x ≡ b → is_some (misformed_from (n + 1) xs) ≡ not (all_formed xs) → is_some (misformed_from n (x ∷ xs)) ≡ not (all_formed (x ∷ xs))
    go true e h = rw e h
    go false e h = rw e

pub formed_from_none : (n : ℕ) (xs : List Node) → misformed_from n xs ≡ None → all_formed xs ≡ true
formed_from_none n xs e = not-false (all_formed xs) (sym (none_misformed n xs) ∙ ap is_some e)
  where
    not-false : (b : Bool) → not b ≡ false → b ≡ true
    not-false true e = refl
    not-false false e = sym e

module _ (os : List Operation) (k : ℕ) (o : Operation) (h : k < length os) (e : o ≡ get_or os k o) where
  pub counts_here : (left : ℕ) → left < o.count → counts_from k (drop k os) left ≡ Some k
  counts_here left l = at_drop_more (λ r. counts_from k r left) os k o h ∙ rw (← e, lt-ltb left o.count l)

  pub counts_past : (left : ℕ) → o.count ≤ left → counts_from k (drop k os) left ≡ counts_from (k + 1) (drop (k + 1) os) (left - o.count)
  counts_past left l = at_drop_more (λ r. counts_from k r left) os k o h ∙ rw (← e, le-ltb left o.count l)

  pub misformed_here : (xs : List Node) → formed_with o (take o.count xs) ≡ false → misformed_list_from k (drop k os) xs ≡ Some k
  misformed_here xs f = at_drop_more (λ r. misformed_list_from k r xs) os k o h ∙ rw (← e, f)

  pub misformed_past : (xs : List Node) → formed_with o (take o.count xs) ≡ true → misformed_list_from k (drop k os) xs ≡ misformed_list_from (k + 1) (drop (k + 1) os) (drop o.count xs)
  misformed_past xs f = at_drop_more (λ r. misformed_list_from k r xs) os k o h ∙ rw (← e, f)

-- the loops make the tests on a list
pub counted_as : (n : ℕ) (os : List Operation) (xs : List Node) → counts_from n os (length xs) ≡ miscounted_from n os xs
counted_as n [] [] = refl
counted_as n [] (x ∷ xs) = rw (ne_eqb (suc (length xs)) 0 (λ e. absurd (omega arith)))
counted_as n (o ∷ os) xs = go (leb o.count (length xs)) refl (counted_as (n + 1) os (drop o.count xs))
  where
    go : (b : Bool) → leb o.count (length xs) ≡ b → counts_from (n + 1) os (length (drop o.count xs)) ≡ miscounted_from (n + 1) os (drop o.count xs)
        → counts_from n (o ∷ os) (length xs) ≡ miscounted_from n (o ∷ os) xs
    go true e h = rw (e, le-ltb (length xs) o.count (leb-true o.count (length xs) e)) (ap (counts_from (n + 1) os) (sym (length-drop o.count xs)) ∙ h)
    go false e h = rw (e, lt-ltb (length xs) o.count (leb-false o.count (length xs) e))

pub formed_as : (e : List Node) (n : ℕ) (os : List Operation) (xs : List Node) → misformed_list_from n os xs ≡ first_operation misformed e n os xs
formed_as e n [] xs = refl
formed_as e n (o ∷ os) xs = go (formed_with o (take o.count xs)) refl (formed_as (take o.count xs ++ e) (n + 1) os (drop o.count xs))
  where
    go : (b : Bool) → formed_with o (take o.count xs) ≡ b
        → misformed_list_from (n + 1) os (drop o.count xs) ≡ first_operation misformed (take o.count xs ++ e) (n + 1) os (drop o.count xs)
        → misformed_list_from n (o ∷ os) xs ≡ first_operation misformed e n (o ∷ os) xs
    go true b h = rw b h
    go false b h = rw b
