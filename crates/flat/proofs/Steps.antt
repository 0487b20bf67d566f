-- Tables whose first entries were changed by their place, then moved by one.
use Rattle.std.proofs.Common.{◌≡◌, ℕ, ◌+◌, ◌-◌, ◌<◌, ◌≤◌, ◌++◌, Bool, cond, not, eqb, ltb, ◌⊎◌, List, length, get_or, take, drop, set, ap, ◌∙◌, inl, inr, Some, None, Option, arith, length-append, length-drop, length-set}
use Rattle.std.specs.List.{SameBelow, CopiedTo, prefix_len, position_or_len}
use Rattle.std.specs.Option.{unwrap_or}
use Rattle.std.proofs.lemmas.List.{get_or-set_same, get_or-set_other, get_or_append_left, get_or-append_right, get_or-drop, get_or-take, length-take-le}
use Rattle.std.proofs.lemmas.List.Sums.{prefix_len-le-length, prefix_len_passes, prefix_len_stops}
use Rattle.std.proofs.lemmas.Bool.{cases_lt, lt-ltb, le-ltb, eq-eqb, eqb-true, not-true, not-false, both_ways}
use borrow.Rule.Slice.PartMut.{put_mid, post_of, same_len_mid}
use Rattle.records.specs.declared.nodes.Node.{Node}
use Rattle.ordered.specs.declared.entries.RowOf.{RowOf}
use Rattle.flat.specs.declared.rows.FlatRow.{FlatRow}
use Rattle.flat.specs.Means.{no_row, no_entry, at, entry}
use Rattle.flat.specs.Shifts.{shrunk, drawn, grown, lifted, new_row, Changed, Taken, Planted}

-- a table whose first n entries are those of ys
module _ {A : Type 0} (d : A) (xs ys : List A) (n : ℕ) (h : n ≤ length xs) (l : length ys ≡ n) where
  front_long : length (ys ++ drop n xs) ≡ length xs
  front_long = omega (arith, length-append ys (drop n xs), length-drop n xs)

  front : (m : ℕ) → m < n → get_or (ys ++ drop n xs) m d ≡ get_or ys m d
  front m b = get_or_append_left ys (drop n xs) d m (omega arith)

  back : (m : ℕ) → n ≤ m → get_or (ys ++ drop n xs) m d ≡ get_or xs m d
  back m b =
      let e : n + (m - n) ≡ m = omega arith in
      get_or-append_right ys (drop n xs) n m d l b ∙ get_or-drop n xs (m - n) d ∙ ap (λ (k : ℕ). get_or xs k d) e

  pub changed_front : (f : ℕ → A → A) → ((m : ℕ) → m < n → get_or ys m d ≡ f m (get_or xs m d)) → Changed d xs f n (ys ++ drop n xs)
  changed_front f e = record { long = front_long; low = λ m b. front m b ∙ e m b; high = λ m b. back m b }

-- the place of the first entry of the row i, or n where there is none
pub place_found : (X : List RowOf) (n i : ℕ) (r : Option ℕ) (p : ℕ) → n ≤ length X
    → r ≡ cond (ltb (position_or_len (λ (x : RowOf). eqb x.row i) (take n X)) (length (take n X))) (Some (position_or_len (λ (x : RowOf). eqb x.row i) (take n X))) None
    → p ≡ unwrap_or r n → (p < n → (entry X p).row ≡ i) × (n ≤ p → (k : ℕ) → k < n → (entry X k).row ≡ i → ⊥)
place_found X n i r p h is u = (found, missed)
  where
    other : RowOf → Bool
    other x = not (eqb x.row i)

    long : length (take n X) ≡ n
    long = length-take-le n X h

    e : p ≡ prefix_len other (take n X)
    e = go (cases_lt (prefix_len other (take n X)) (length (take n X)))
      where
        go : (prefix_len other (take n X) < length (take n X)) ⊎ (length (take n X) ≤ prefix_len other (take n X)) → p ≡ prefix_len other (take n X)
        go (inl l) = u ∙ rw (is, lt-ltb (prefix_len other (take n X)) (length (take n X)) l)
        go (inr l) = u ∙ rw (is, le-ltb (prefix_len other (take n X)) (length (take n X)) l) (omega (arith, long, prefix_len-le-length other (take n X)))

    found : p < n → (entry X p).row ≡ i
    found l =
        let q : prefix_len other (take n X) < length (take n X) = omega (arith, e, long) in
        let t = prefix_len_stops other (take n X) no_entry q in
        eqb-true (entry X p).row i (rw (e, ← get_or-take n X (prefix_len other (take n X)) no_entry (omega (arith, e))) (not-false (eqb (entry (take n X) (prefix_len other (take n X))).row i) t))

    missed : n ≤ p → (k : ℕ) → k < n → (entry X k).row ≡ i → ⊥
    missed l k b w =
        let t = prefix_len_passes other (take n X) k no_entry (omega (arith, e)) in
        both_ways (eqb (entry X k).row i) (rw (← get_or-take n X k no_entry b) (not-true (eqb (entry (take n X) k).row i) t)) (eq-eqb (entry X k).row i w)

-- a table whose first i entries are those of ys: its part from j on, as far as n, is what it was
module _ {A : Type 0} (d : A) (xs ys : List A) (i j n : ℕ) (w : i ≤ j) (v : j ≤ n) (h : n ≤ length xs) (l : length ys ≡ i) where
  with_front : length (ys ++ drop i xs) ≡ length xs
  with_front = front_long d xs ys i (omega arith) l

  pub part_long : length (take (n - j) (drop j (ys ++ drop i xs))) ≡ n - j
  part_long = length-take-le (n - j) (drop j (ys ++ drop i xs)) (omega (arith, length-drop j (ys ++ drop i xs), with_front))

  pub part_was : (m : ℕ) → j + m < n → get_or (take (n - j) (drop j (ys ++ drop i xs))) m d ≡ get_or xs (j + m) d
  part_was m b =
      get_or-take (n - j) (drop j (ys ++ drop i xs)) m d (omega arith) ∙ get_or-drop j (ys ++ drop i xs) m d ∙ back d xs ys i (omega arith) l (j + m) (omega arith)

-- and its part from j on, as far as n, holds zs
module _ {A : Type 0} (d : A) (xs ys zs : List A) (i j n : ℕ) (w : i ≤ j) (v : j ≤ n) (h : n ≤ length xs) (l : length ys ≡ i) (k : length zs ≡ n - j) where
  abbrev parted : List A
  parted = put_mid j (n - j) (ys ++ drop i xs) zs

  whole : length (ys ++ drop i xs) ≡ length xs
  whole = with_front d xs ys i j n w v h l

  parted_long : length parted ≡ length xs
  parted_long =
      same_len_mid j (n - j) (ys ++ drop i xs) zs (omega (arith, k, part_long d xs ys i j n w v h l)) ∙ whole

  before_both : (m : ℕ) → m < i → get_or parted m d ≡ get_or ys m d
  before_both m b =
      let t : length (take j (ys ++ drop i xs)) ≡ j = length-take-le j (ys ++ drop i xs) (omega (arith, whole)) in
      get_or_append_left (take j (ys ++ drop i xs)) (zs ++ post_of j (n - j) (ys ++ drop i xs)) d m (omega (arith, t))
      ∙ get_or-take j (ys ++ drop i xs) m d (omega arith) ∙ front d xs ys i (omega arith) l m b

  behind_both : (m : ℕ) → j ≤ m → m < n → get_or parted m d ≡ get_or zs (m - j) d
  behind_both m a b =
      let t : length (take j (ys ++ drop i xs)) ≡ j = length-take-le j (ys ++ drop i xs) (omega (arith, whole)) in
      get_or-append_right (take j (ys ++ drop i xs)) (zs ++ post_of j (n - j) (ys ++ drop i xs)) j m d t a
      ∙ get_or_append_left zs (post_of j (n - j) (ys ++ drop i xs)) d (m - j) (omega (arith, k))

-- a row goes: B stands before it, and M behind it
pub taken_from : (R B M S : List FlatRow) (n i : ℕ) → i < n → n ≤ length R → length B ≡ i → length M ≡ n - (i + 1)
    → length S ≡ length (put_mid (i + 1) (n - (i + 1)) (B ++ drop i R) M)
    → ((m : ℕ) → m < i → at B m ≡ shrunk i m (at R m)) → ((m : ℕ) → i + 1 + m < n → at M m ≡ drawn i (i + 1 + m) (at R (i + 1 + m)))
    → CopiedTo (put_mid (i + 1) (n - (i + 1)) (B ++ drop i R) M) S (i + 1) i (n - (i + 1)) → SameBelow (put_mid (i + 1) (n - (i + 1)) (B ++ drop i R) M) S i → Taken R n i S
taken_from R B M S n i b h l k long before behind copied same =
    let w : i ≤ i + 1 = omega arith in
    let v : i + 1 ≤ n = omega arith in
    record {
      long = long ∙ parted_long no_row R B M i (i + 1) n w v h l k;
      low = λ m a. same m no_row a ∙ before_both no_row R B M i (i + 1) n w v h l k m a ∙ before m a;
      high = λ m a c.
          let e : i + 1 + (m - i) ≡ m + 1 = omega arith in
          let q : i + 1 + (m + 1 - (i + 1)) ≡ m + 1 = omega arith in
          copied m no_row a (omega arith) ∙ ap (at (put_mid (i + 1) (n - (i + 1)) (B ++ drop i R) M)) e
          ∙ behind_both no_row R B M i (i + 1) n w v h l k (m + 1) (omega arith) c ∙ behind (m + 1 - (i + 1)) (omega (arith, q)) ∙ ap (λ (p : ℕ). drawn i p (at R p)) q;
    }

-- a row comes to the place i: B stands before it, and M behind it
pub planted_from : (R B M S : List FlatRow) (n i q : ℕ) (x : Node) → i ≤ n → n < length R → length B ≡ i → length M ≡ n - i
    → length S ≡ length (put_mid i (n - i) (B ++ drop i R) M)
    → ((m : ℕ) → m < i → at B m ≡ grown q m (at R m)) → ((m : ℕ) → i + m < n → at M m ≡ lifted i (i + m) (at R (i + m)))
    → CopiedTo (put_mid i (n - i) (B ++ drop i R) M) S i (i + 1) (n - i) → SameBelow (put_mid i (n - i) (B ++ drop i R) M) S (i + 1) → Planted R n i q x (set S i (new_row x i q))
planted_from R B M S n i q x b room l k long before behind copied same =
    let w : i ≤ i = omega arith in
    let h : n ≤ length R = omega arith in
    let all = parted_long no_row R B M i i n w b h l k in
    record {
      long = length-set S i (new_row x i q) ∙ long ∙ all;
      low = λ m a.
          let ne : m ≡ i → ⊥ = λ e. omega arith in
          get_or-set_other S i m (new_row x i q) no_row ne ∙ same m no_row (omega arith) ∙ before_both no_row R B M i i n w b h l k m a ∙ before m a;
      here = get_or-set_same S i (new_row x i q) no_row (omega (arith, long, all));
      high = λ m a c.
          let ne : m + 1 ≡ i → ⊥ = λ e. omega arith in
          let e : i + (m + 1 - (i + 1)) ≡ m = omega arith in
          let p : i + (m - i) ≡ m = omega arith in
          get_or-set_other S i (m + 1) (new_row x i q) no_row ne ∙ copied (m + 1) no_row (omega arith) (omega arith) ∙ ap (at (put_mid i (n - i) (B ++ drop i R) M)) e
          ∙ behind_both no_row R B M i i n w b h l k m a c ∙ behind (m - i) (omega (arith, p)) ∙ ap (λ (t : ℕ). lifted i t (at R t)) p;
    }
