-- What the library's searches find, in the words of the listing.
use Rattle.std.proofs.Common.{◌≡◌, ℕ, ◌+◌, Bool, true, false, cond, not, eqb, List, [], ◌∷◌, Some, None, Option, Bor, refl, ap, sym, ◌∙◌}
use Rattle.std.proofs.lemmas.List.Folds.{find-append}
use Rattle.std.proofs.lemmas.Grind.{reverse_onto}
use mathlib.Core.List.{reverse}
use Rattle.std.specs.List.{find, position_or_len}
use Rattle.std.specs.Option.{MatchOption, option_map, option_or}
use Rattle.records.specs.declared.nodes.Node.{Node}
use Rattle.store.specs.Listed.{position, first_where, last_from}

-- the identifier of the row that was found, or else l
abbrev pub id_or : ℕ → Option Node → ℕ
id_or l None = l
id_or l (Some x) = x.id

first_found : (q : Node → Bool) (xs : List Node) → id_or 0 (find q xs) ≡ first_where q xs
first_found q [] = refl
first_found q (x ∷ xs) = go (q x) (first_found q xs)
  where
    go : (b : Bool) → id_or 0 (find q xs) ≡ first_where q xs → id_or 0 (cond b (Some x) (find q xs)) ≡ cond b x.id (first_where q xs)
    go true h = refl
    go false h = h

last_found : (q : Node → Bool) (l : ℕ) (xs : List Node) → id_or l (find q (reverse xs)) ≡ last_from q l xs
last_found q l [] = refl
last_found q l (x ∷ xs) =
    ap (λ (ys : List Node). id_or l (find q ys)) (reverse_onto xs x []) ∙ ap (id_or l) (find-append q (reverse xs) (x ∷ [])) ∙ go (find q (reverse xs)) (q x) ∙ last_found q (cond (q x) x.id l) xs
  where
    go : (o : Option Node) (b : Bool) → id_or l (option_or o (cond b (Some x) None)) ≡ id_or (cond b x.id l) o
    go (Some y) b = refl
    go None true = refl
    go None false = refl

id_of_found : (o : Option (Bor Node)) (l r : ℕ) → MatchOption o (r ≡ l) (λ x. r ≡ x.now.id) → r ≡ id_or l (option_map (λ y. y.now) o)
id_of_found None l r h = h
id_of_found (Some x) l r h = h

-- the identifier that a search answers, from the first row on and from the last row back
pub first_answered : (q : Node → Bool) (xs : List Node) (o : Option (Bor Node)) (r : ℕ) → option_map (λ y. y.now) o ≡ find q xs → MatchOption o (r ≡ 0) (λ x. r ≡ x.now.id) → r ≡ first_where q xs
first_answered q xs o r e h = id_of_found o 0 r h ∙ ap (id_or 0) e ∙ first_found q xs

pub last_answered : (q : Node → Bool) (l : ℕ) (xs : List Node) (o : Option (Bor Node)) (r : ℕ) → option_map (λ y. y.now) o ≡ find q (reverse xs) → MatchOption o (r ≡ l) (λ x. r ≡ x.now.id) → r ≡ last_from q l xs
last_answered q l xs o r e h = id_of_found o l r h ∙ ap (id_or l) e ∙ last_found q l xs

pub position_counted : (t : ℕ) (xs : List Node) → position_or_len (λ x. eqb x.id t) xs ≡ position t xs
position_counted t [] = refl
position_counted t (x ∷ xs) = go (eqb x.id t) (position_counted t xs)
  where
    go : (b : Bool) → position_or_len (λ x. eqb x.id t) xs ≡ position t xs → cond (not b) (1 + position_or_len (λ x. eqb x.id t) xs) 0 ≡ cond b 0 (1 + position t xs)
    go true h = refl
    go false h = ap (λ (n : ℕ). 1 + n) h
