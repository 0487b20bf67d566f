-- Places of lists of records: where an identifier stands, and the first and the last row that pass a test.
use Rattle.std.proofs.Common.{◌≡◌, ℕ, zero, suc, ◌+◌, ◌-◌, ◌<◌, ◌≤◌, Bool, true, false, cond, eqb, List, [], ◌∷◌, length, get_or, take, drop, Some, sym, refl, ap, ◌∙◌, add-one, arith, length-drop}
use Rattle.std.proofs.lemmas.List.{get_or-drop, drop-drop}
use Rattle.std.proofs.lemmas.Bool.{eq-eqb, ne_eqb}
use Rattle.records.specs.declared.nodes.Node.{Node}
use Rattle.document.specs.Tree.{one}
use Rattle.store.specs.Listed.{position, times, row_with, first_where, last_from, last_where}
use Rattle.flat.specs.Means.{no_node}

abbrev pub nth : List Node → ℕ → Node
nth xs k = get_or xs k no_node

-- ---- where an identifier stands

pub times_at : (t : ℕ) (xs : List Node) (k : ℕ) → k < length xs → (nth xs k).id ≡ t → 1 ≤ times t xs
times_at t [] k h e = absurd (omega arith)
times_at t (x ∷ xs) zero h e = rw (eq-eqb x.id t e) (omega arith)
times_at t (x ∷ xs) (suc k) h e = omega (arith, times_at t xs k (omega arith) e)

pub once_at : (t : ℕ) (xs : List Node) (i j : ℕ) → times t xs ≤ 1 → i < length xs → j < length xs → (nth xs i).id ≡ t → (nth xs j).id ≡ t → i ≡ j
once_at t [] i j o h g e f = absurd (omega arith)
once_at t (x ∷ xs) zero zero o h g e f = refl
once_at t (x ∷ xs) zero (suc j) o h g e f =
    let u : one (eqb x.id t) ≡ 1 = rw (eq-eqb x.id t e) in absurd (omega (arith, times_at t xs j (omega arith) f))
once_at t (x ∷ xs) (suc i) zero o h g e f =
    let u : one (eqb x.id t) ≡ 1 = rw (eq-eqb x.id t f) in absurd (omega (arith, times_at t xs i (omega arith) e))
once_at t (x ∷ xs) (suc i) (suc j) o h g e f = ap suc (once_at t xs i j (omega arith) (omega arith) (omega arith) e f)

-- a row with the identifier t is the first one where t stands once
pub record Found (t : ℕ) (xs : List Node) (k : ℕ) : Type 0 where
  pub place : position t xs ≡ k
  pub row : row_with t xs ≡ Some (nth xs k)

pub found_at : (t : ℕ) (xs : List Node) (k : ℕ) → times t xs ≤ 1 → k < length xs → (nth xs k).id ≡ t → Found t xs k
found_at t [] k o h e = absurd (omega arith)
found_at t (x ∷ xs) zero o h e = record { place = rw (eq-eqb x.id t e); row = rw (eq-eqb x.id t e) }
found_at t (x ∷ xs) (suc k) o h e = let g = go (eqb x.id t) o (found_at t xs k (omega arith) (omega arith) e) in record { place = g.0; row = g.1 }
  where
    go : (b : Bool) → one b + times t xs ≤ 1 → Found t xs k → (cond b 0 (1 + position t xs) ≡ suc k) × (cond b (Some x) (row_with t xs) ≡ Some (nth xs k))
    go true q f = absurd (omega (arith, times_at t xs k (omega arith) e))
    go false q f = (omega (arith, f.place), f.row)

pub no_times : (t : ℕ) (xs : List Node) → ((k : ℕ) → k < length xs → (nth xs k).id ≡ t → ⊥) → times t xs ≡ 0
no_times t [] n = refl
no_times t (x ∷ xs) n = rw (ne_eqb x.id t (n 0 (omega arith))) (omega (arith, no_times t xs (λ k h. n (suc k) (omega arith))))

-- ---- the first row that passes a test

first_at : (q : Node → Bool) (xs : List Node) (k : ℕ) → k < length xs → q (nth xs k) ≡ true → ((j : ℕ) → j < k → q (nth xs j) ≡ false) → first_where q xs ≡ (nth xs k).id
first_at q [] k h e b = absurd (omega arith)
first_at q (x ∷ xs) zero h e b = rw e
first_at q (x ∷ xs) (suc k) h e b = rw (b 0 (omega arith)) (first_at q xs k (omega arith) e (λ j l. b (suc j) (omega arith)))

first_none : (q : Node → Bool) (xs : List Node) → ((j : ℕ) → j < length xs → q (nth xs j) ≡ false) → first_where q xs ≡ 0
first_none q [] b = refl
first_none q (x ∷ xs) b = rw (b 0 (omega arith)) (first_none q xs (λ j l. b (suc j) (omega arith)))

pub first_from : (q : Node → Bool) (xs : List Node) (m k : ℕ) → m ≤ k → k < length xs → q (nth xs k) ≡ true → ((j : ℕ) → m ≤ j → j < k → q (nth xs j) ≡ false)
    → first_where q (drop m xs) ≡ (nth xs k).id
first_from q xs m k l h e b =
    first_at q (drop m xs) (k - m) (omega (arith, length-drop m xs)) (ap q (there (k - m)) ∙ ap (λ (j : ℕ). q (nth xs j)) back ∙ e)
    (λ j g. ap q (there j) ∙ b (m + j) (omega arith) (omega arith)) ∙ ap (λ (x : Node). x.id) (there (k - m)) ∙ ap (λ (j : ℕ). (nth xs j).id) back
  where
    there : (j : ℕ) → nth (drop m xs) j ≡ nth xs (m + j)
    there j = get_or-drop m xs j no_node

    back : m + (k - m) ≡ k
    back = omega arith

pub none_from : (q : Node → Bool) (xs : List Node) (m : ℕ) → ((j : ℕ) → m ≤ j → j < length xs → q (nth xs j) ≡ false) → first_where q (drop m xs) ≡ 0
none_from q xs m b =
    first_none q (drop m xs) (λ j g. ap q (get_or-drop m xs j no_node) ∙ b (m + j) (omega arith) (omega (arith, length-drop m xs)))

first_past : (q : Node → Bool) (xs : List Node) (m : ℕ) → ((j : ℕ) → j < m → j < length xs → q (nth xs j) ≡ false) → first_where q (drop m xs) ≡ first_where q xs
first_past q xs zero b = refl
first_past q [] (suc m) b = refl
first_past q (x ∷ xs) (suc m) b = rw (b 0 (omega arith) (omega arith)) (first_past q xs m (λ j l h. b (suc j) (omega arith) (omega arith)))

-- rows that fail may be passed over
pub first_beyond : (q : Node → Bool) (xs : List Node) (m k : ℕ) → m ≤ k → ((j : ℕ) → m ≤ j → j < k → j < length xs → q (nth xs j) ≡ false)
    → first_where q (drop k xs) ≡ first_where q (drop m xs)
first_beyond q xs m k l b =
    let e : k ≡ m + (k - m) = omega arith in
    ap (λ (j : ℕ). first_where q (drop j xs)) e ∙ ap (first_where q) (sym (drop-drop (k - m) m xs))
    ∙ first_past q (drop m xs) (k - m) (λ j h g. ap q (get_or-drop m xs j no_node) ∙ b (m + j) (omega arith) (omega arith) (omega (arith, length-drop m xs)))

-- ---- the last row that passes a test

last_one : (q : Node → Bool) (l : ℕ) (xs : List Node) (c : ℕ) → c < length xs → last_from q l (take (suc c) xs) ≡ cond (q (nth xs c)) (nth xs c).id (last_from q l (take c xs))
last_one q l [] c h = absurd (omega arith)
last_one q l (x ∷ xs) zero h = refl
last_one q l (x ∷ xs) (suc c) h = last_one q (cond (q x) x.id l) xs c (omega arith)

pub last_step : (q : Node → Bool) (xs : List Node) (c : ℕ) → c < length xs → last_where q (take (c + 1) xs) ≡ cond (q (nth xs c)) (nth xs c).id (last_where q (take c xs))
last_step q xs c h = rw add-one (last_one q 0 xs c h)

pub last_skip : (q : Node → Bool) (xs : List Node) (c m : ℕ) → c + m ≤ length xs → ((j : ℕ) → c ≤ j → j < c + m → q (nth xs j) ≡ false)
    → last_where q (take (c + m) xs) ≡ last_where q (take c xs)
last_skip q xs c zero h b = let e : c + 0 ≡ c = omega arith in ap (λ (j : ℕ). last_where q (take j xs)) e
last_skip q xs c (suc m) h b =
    let e : c + suc m ≡ c + m + 1 = omega arith in
    ap (λ (j : ℕ). last_where q (take j xs)) e ∙ last_step q xs (c + m) (omega arith)
    ∙ ap (λ (z : Bool). cond z (nth xs (c + m)).id (last_where q (take (c + m) xs))) (b (c + m) (omega arith) (omega arith))
    ∙ last_skip q xs c m (omega arith) (λ j g l. b j g (omega arith))
