-- Tables that are filled one entry after another.
use Rattle.std.proofs.Common.{◌≡◌, ℕ, zero, suc, ◌+◌, ◌≤◌, List, [], ◌∷◌, ◌++◌, length, drop, set, sym, refl, ap, ◌∙◌, add-zero, add-suc, suc-add, arith}
use Rattle.walk.specs.Written.{written}

-- one list behind another
pub written-++ : {X : Type 0} → (xs : List X) (n : ℕ) (ys zs : List X) → written (written xs n ys) (n + length ys) zs ≡ written xs n (ys ++ zs)
written-++ xs n [] zs = ap (λ m. written xs m zs) (add-zero n)
written-++ xs n (y ∷ ys) zs =
    ap (λ m. written (written (set xs n y) (suc n) ys) m zs) (add-suc n (length ys) ∙ sym (suc-add n (length ys))) ∙ written-++ (set xs n y) (suc n) ys zs

written_cons : {X : Type 0} → (x : X) (xs : List X) (n : ℕ) (ys : List X) → written (x ∷ xs) (suc n) ys ≡ x ∷ written xs n ys
written_cons x xs n [] = refl
written_cons x xs n (y ∷ ys) = written_cons x (set xs n y) (suc n) ys

-- from the start, with room enough
pub written_all : {X : Type 0} → (xs ys : List X) → length ys ≤ length xs → written xs 0 ys ≡ ys ++ drop (length ys) xs
written_all xs [] h = refl
written_all [] (y ∷ ys) h = absurd (omega arith)
written_all (x ∷ xs) (y ∷ ys) h = written_cons y xs 0 ys ∙ ap (λ l. y ∷ l) (written_all xs ys (omega arith))

-- past the end nothing is written
pub set_past : {X : Type 0} → (xs : List X) (n : ℕ) (v : X) → length xs ≤ n → set xs n v ≡ xs
set_past [] n v h = refl
set_past (x ∷ xs) zero v h = absurd (omega arith)
set_past (x ∷ xs) (suc n) v h = ap (λ l. x ∷ l) (set_past xs n v (omega arith))
