-- Tables that are filled: entries are written one after another from a place on; what passes the end is not written.
use Rattle.std.specs.Prelude.{ℕ, suc, List, [], ◌∷◌, slice_set}

abbrev pub written : {X : Type 0} → List X → ℕ → List X → List X
written xs n [] = xs
written xs n (y ∷ ys) = written (slice_set xs n y) (suc n) ys
