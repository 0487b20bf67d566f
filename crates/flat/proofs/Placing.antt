-- The places that the walks over the rows find are those at which the listing takes a new row.
use Rattle.std.proofs.Common.{◌≡◌, ℕ, zero, suc, ◌+◌, ◌-◌, ◌<◌, ◌≤◌, Bool, true, false, eqb, ltb, ◌⊎◌, List, [], ◌∷◌, ◌++◌, length, Some, None, Option, sym, refl, ap, ◌∙◌, inl, inr, arith, length-append}
use Rattle.std.proofs.lemmas.List.{get_or-append-add, get_or_append_left}
use Rattle.std.proofs.lemmas.Bool.{cases_lt, cases_order, both_ways, eq-eqb, ne_eqb, eqb-true, lt-ltb, le-ltb, and_left}
use Rattle.std.proofs.lemmas.Bool.Decides.{nat_tests}
use Rattle.records.specs.declared.nodes.Node.{Node}
use Rattle.document.specs.Tree.{Label, Forest, nil, node, one, size_labels, size, count_labels, Above, Attributes}
use Rattle.document.specs.Listing.{row, attribute_rows, rows, listing}
use Rattle.document.specs.Table.{is_attribute}
use Rattle.document.proofs.Counting.{one_zero, length_attribute_rows, length_of_rows}
use Rattle.document.proofs.Gathering.{holder_no_attribute}
use Rattle.ordered.specs.declared.entries.RowOf.{RowOf}
use Rattle.store.specs.Kept.{Shaped}
use Rattle.store.specs.Listed.{times, smaller_labels, past_smaller, past_attributes, past_all, place_behind, position, attribute_row}
use Rattle.flat.specs.declared.rows.FlatRow.{FlatRow}
use Rattle.flat.specs.Means.{no_node, at, up, nodes, means, Plain, Stored}
use Rattle.flat.specs.Walks.{up_to, passes, Behind}
use Rattle.store.proofs.Places.{times_labels}
use Rattle.flat.proofs.Tables.{nth, no_times}
use Rattle.flat.proofs.Standing.{nodes_long, node_at, Seen, plain, sight, listed_once}
use Rattle.flat.proofs.Families.{up_before, up_is, parent_above}
use Rattle.flat.proofs.Focusing.{Focus, focus, Ends, Within, all_at, inner, times-++}

-- ---- attributes up to a bound

-- how many come first
abbrev counted : Option ℕ → List Label → ℕ
counted None as' = size_labels as'
counted (Some x) as' = smaller_labels x as'

smaller_few : (x : ℕ) (as' : List Label) → smaller_labels x as' ≤ size_labels as'
smaller_few x [] = omega arith
smaller_few x (r ∷ l) = go (ltb r.id x) (smaller_few x l)
  where
    go : (b : Bool) → smaller_labels x l ≤ size_labels l → one b + smaller_labels x l ≤ 1 + size_labels l
    go true h = omega arith
    go false h = omega arith

none_smaller : (x n : ℕ) (as' : List Label) → x ≤ n → Above n as' → smaller_labels x as' ≡ 0
none_smaller x n [] h a = refl
none_smaller x n (r ∷ l) h a = rw (le-ltb r.id x (omega (arith, a.0))) (omega (arith, none_smaller x r.id l (omega (arith, a.0)) a.1))

-- no attribute has the identifier of the bound
abbrev Unbound : Option ℕ → List Label → Type 0
Unbound None as' = Unit {0}
Unbound (Some x) as' = count_labels x as' ≡ 0

attribute_passes : (t : ℕ) (r : Label) (b : Option ℕ) → is_attribute r.kind ≡ true → passes t b (row t r) ≡ up_to b r.id
attribute_passes t r b e = rw (eq-eqb t t refl, e)

first_fails : (t x : ℕ) (r : Label) → x ≤ r.id → eqb r.id x ≡ false → is_attribute r.kind ≡ true → passes t (Some x) (row t r) ≡ false
first_fails t x r h e a = attribute_passes t r (Some x) a ∙ grind (arith, nat_tests)

run_passes : (t : ℕ) (b : Option ℕ) (n : ℕ) (as' : List Label) → Attributes as' → Above n as' → (j : ℕ) → j < counted b as' → passes t b (nth (attribute_rows t as') j) ≡ true
run_passes t b n [] a o j h = absurd (none b h)
  where
    none : (b : Option ℕ) → j < counted b [] → ⊥
    none None h = omega arith
    none (Some x) h = omega arith
run_passes t None n (r ∷ l) a o zero h = attribute_passes t r None (ap is_attribute a.0)
run_passes t None n (r ∷ l) a o (suc j) h = run_passes t None r.id l a.2 o.1 j (omega arith)
run_passes t (Some x) n (r ∷ l) a o j h = go (cases_lt r.id x) j h (run_passes t (Some x) r.id l a.2 o.1)
  where
    go : (r.id < x) ⊎ (x ≤ r.id) → (j : ℕ) → j < one (ltb r.id x) + smaller_labels x l
        → ((j : ℕ) → j < smaller_labels x l → passes t (Some x) (nth (attribute_rows t l) j) ≡ true)
        → passes t (Some x) (nth (row t r ∷ attribute_rows t l) j) ≡ true
    go (inl c) zero h ih = attribute_passes t r (Some x) (ap is_attribute a.0) ∙ grind (arith, nat_tests)
    go (inl c) (suc j) h ih = let e : one (ltb r.id x) ≡ 1 = rw (lt-ltb r.id x c) in ih j (omega arith)
    go (inr c) j h ih = let e : one (ltb r.id x) ≡ 0 = rw (le-ltb r.id x c) in absurd (omega (arith, none_smaller x r.id l c o.1))

stop_fails : (t : ℕ) (b : Option ℕ) (n : ℕ) (as' : List Label) → Attributes as' → Above n as' → Unbound b as' → counted b as' < size_labels as'
    → passes t b (nth (attribute_rows t as') (counted b as')) ≡ false
stop_fails t None n as' a o u h = absurd (omega arith)
stop_fails t (Some x) n [] a o u h = absurd (omega arith)
stop_fails t (Some x) n (r ∷ l) a o u h = go (cases_lt r.id x) h (stop_fails t (Some x) r.id l a.2 o.1)
  where
    other : eqb r.id x ≡ false
    other = one_zero (eqb r.id x) (omega arith)

    go : (r.id < x) ⊎ (x ≤ r.id) → one (ltb r.id x) + smaller_labels x l < 1 + size_labels l
        → (count_labels x l ≡ 0 → smaller_labels x l < size_labels l → passes t (Some x) (nth (attribute_rows t l) (smaller_labels x l)) ≡ false)
        → passes t (Some x) (nth (row t r ∷ attribute_rows t l) (one (ltb r.id x) + smaller_labels x l)) ≡ false
    go (inl c) h ih =
        let e : one (ltb r.id x) ≡ 1 = rw (lt-ltb r.id x c) in
        let z : one (ltb r.id x) + smaller_labels x l ≡ suc (smaller_labels x l) = omega arith in
        rw z (ih (omega arith) (omega arith))
    go (inr c) h ih =
        let e : one (ltb r.id x) ≡ 0 = rw (le-ltb r.id x c) in
        let z : one (ltb r.id x) + smaller_labels x l ≡ 0 = omega (arith, none_smaller x r.id l c o.1) in
        rw z (first_fails t x r c other (ap is_attribute a.0))

-- what stands in front of a list, and in a list between others
nth_behind : (front rest : List Node) (x : Node) (i j : ℕ) → length front ≡ i → nth (front ++ (x ∷ rest)) (i + (1 + j)) ≡ nth rest j
nth_behind front rest x i j e =
    let z : i + (1 + j) ≡ length front + suc j = omega arith in
    ap (nth (front ++ (x ∷ rest))) z ∙ get_or-append-add front (x ∷ rest) (suc j) no_node

counted_few : (b : Option ℕ) (as' : List Label) → counted b as' ≤ size_labels as'
counted_few None as' = omega arith
counted_few (Some x) as' = smaller_few x as'

-- the row behind the attributes of t is none of them
head_fails : (t : ℕ) (front back : List Node) (k : Forest) → 0 < t → Shaped k → Ends 0 front back → ((j : ℕ) → j < length front → (nth front j).id ≡ t → ⊥)
    → 0 < length (rows t k ++ back) → attribute_row t (nth (rows t k ++ back) 0) ≡ false
head_fails t front back (node r as' k f) z s e no' h = rw (eq-eqb t t refl) (holder_no_attribute r.kind as' k s.1)
head_fails t front [] nil z s e no' h = absurd (omega arith)
head_fails t front (x ∷ back) nil z s (inl e) no' h = and_left (eqb x.parent t) (is_attribute x.kind) (ne_eqb x.parent t (λ w. omega arith))
head_fails t front (x ∷ back) nil z s (inr (j, l, e)) no' h = and_left (eqb x.parent t) (is_attribute x.kind) (ne_eqb x.parent t (λ w. no' j l (e ∙ w)))

-- where an identifier of a list stands
place_of : (t : ℕ) (xs : List Node) → 1 ≤ times t xs → (j : ℕ) × (j < length xs) × ((nth xs j).id ≡ t)
place_of t [] h = absurd (omega arith)
place_of t (x ∷ xs) h = go (eqb x.id t) refl h (place_of t xs)
  where
    go : (b : Bool) → eqb x.id t ≡ b → 1 ≤ one b + times t xs → (1 ≤ times t xs → (j : ℕ) × (j < length xs) × ((nth xs j).id ≡ t))
        → (j : ℕ) × (j < length (x ∷ xs)) × ((nth (x ∷ xs) j).id ≡ t)
    go true e h ih = (0, omega arith, eqb-true x.id t e)
    go false e h ih = let w = ih (omega arith) in (suc w.0, omega (arith, w.1), w.2)

label_parent : (t : ℕ) (as' : List Label) (j : ℕ) → j < size_labels as' → (nth (attribute_rows t as') j).parent ≡ t
label_parent t [] j h = absurd (omega arith)
label_parent t (r ∷ l) zero h = refl
label_parent t (r ∷ l) (suc j) h = label_parent t l j (omega arith)

module _ (R : List FlatRow) (X : List RowOf) (n : ℕ) (h : n ≤ length R) (s : Stored R X n) (i : ℕ) (l : i < n) (child : is_attribute (at R i).node.kind ≡ false) where
  P : Plain R n
  P = plain R X n h s

  abbrev t : ℕ
  t = (at R i).node.id

  abbrev S : Seen (means R n) s.kept (nodes R n) s.listed (at R i).node.id i
  S = sight R X n h s (at R i).node.id i l refl

  F : Focus t 0 (means R n)
  F = focus t S.v (ap (λ (x : Node). is_attribute x.kind) (S.row ∙ node_at R n i h l) ∙ child) (means R n) 0 0 (s.kept.distinct t) S.seen s.kept.shaped

  abbrev N : List Node
  N = nodes R n

  abbrev A : List Node
  A = attribute_rows t F.as'

  abbrev K : List Node
  K = rows t F.k

  abbrev a : ℕ
  a = size_labels F.as'

  split : N ≡ F.front ++ (row F.q F.r ∷ (A ++ (K ++ F.back)))
  unfolding listing
  split = sym s.listed ∙ F.split

  long : n ≡ length F.front + (1 + (a + (size F.k + length F.back)))
  long =
      omega (
        arith,
        nodes_long R n h,
        ap length split,
        length-append F.front (row F.q F.r ∷ (A ++ (K ++ F.back))),
        length-append A (K ++ F.back),
        length-append K F.back,
        length_attribute_rows t F.as',
        length_of_rows t F.k,
      )

  front_long : length F.front ≡ i
  front_long =
      listed_once (means R n) s.kept N s.listed (length F.front) i (omega (arith, nodes_long R n h, long)) (omega (arith, nodes_long R n h))
      (ap (λ (x : Node). x.id) here ∙ F.is ∙ sym (ap (λ (x : Node). x.id) (node_at R n i h l)))
    where
      z : length F.front ≡ length F.front + 0
      z = omega arith

      here : nth N (length F.front) ≡ row F.q F.r
      here = ap (λ (xs : List Node). nth xs (length F.front)) split ∙ ap (nth (F.front ++ (row F.q F.r ∷ (A ++ (K ++ F.back))))) z ∙ get_or-append-add F.front (row F.q F.r ∷ (A ++ (K ++ F.back))) 0 no_node

  tail : (j : ℕ) → nth N (i + (1 + j)) ≡ nth (A ++ (K ++ F.back)) j
  tail j = ap (λ (xs : List Node). nth xs (i + (1 + j))) split ∙ nth_behind F.front (A ++ (K ++ F.back)) (row F.q F.r) i j front_long

  labels : (j : ℕ) → j < a → nth N (i + (1 + j)) ≡ nth A j
  labels j b = tail j ∙ get_or_append_left A (K ++ F.back) no_node j (omega (arith, length_attribute_rows t F.as'))

  beyond : (j : ℕ) → nth N (i + (1 + (a + j))) ≡ nth (K ++ F.back) j
  beyond j =
      let z : a + j ≡ length A + j = omega (arith, length_attribute_rows t F.as') in
      tail (a + j) ∙ ap (nth (A ++ (K ++ F.back))) z ∙ get_or-append-add A (K ++ F.back) j no_node

  -- rows before the node do not have its identifier
  front_others : (j : ℕ) → j < length F.front → (nth F.front j).id ≡ t → ⊥
  front_others j b e =
      let c : j < i = omega (arith, front_long) in
      let g : j < n = omega arith in
      let u = P.once j i g l (ap (λ (x : Node). x.id) (sym (node_at R n j h g) ∙ in_front j b) ∙ e) in omega arith
    where
      in_front : (j : ℕ) → j < length F.front → nth N j ≡ nth F.front j
      in_front j b = ap (λ (xs : List Node). nth xs j) split ∙ get_or_append_left F.front (row F.q F.r ∷ (A ++ (K ++ F.back))) no_node j b

  -- ---- behind the attributes

  no_more : i + (1 + a) < n → attribute_row t (nth N (i + (1 + a))) ≡ false
  no_more b =
      let z : a ≡ a + 0 = omega arith in
      ap (λ (j : ℕ). attribute_row t (nth N (i + (1 + j)))) z ∙ ap (attribute_row t) (beyond 0)
      ∙ head_fails t F.front F.back F.k (P.above i l) F.shaped F.ends front_others
      (omega (arith, long, front_long, length-append K F.back, length_of_rows t F.k))

  behind_is : (b : Option ℕ) (r : ℕ) → Unbound b F.as' → Behind R n i t b r → r ≡ i + (1 + counted b F.as')
  behind_is b r u w = go (cases_order r target)
    where
      target : ℕ
      target = i + (1 + counted b F.as')

      few : counted b F.as' ≤ a
      few = counted_few b F.as'

      go : (r ≡ target) ⊎ ((r < target) ⊎ (target < r)) → r ≡ target
      go (inl e) = e
      go (inr (inl c)) =
          let j = r - (i + 1) in
          let z : i + (1 + j) ≡ r = omega (arith, w.after) in
          let g : r < n = omega (arith, few, long, front_long) in
          let d : j < counted b F.as' = omega (arith, w.after) in
          let yes' : passes t b (nth N r) ≡ true = ap (λ (m : ℕ). passes t b (nth N m)) (sym z) ∙ ap (passes t b) (labels j (omega (arith, few))) ∙ run_passes t b 0 F.as' F.attributes F.above j d in
          absurd (both_ways (passes t b (nth N r)) (ap (passes t b) (node_at R n r h g) ∙ w.stop g) yes')
      go (inr (inr c)) =
          let g : target < n = omega (arith, w.within) in
          absurd (both_ways (passes t b (nth N target)) (fails (cases_lt (counted b F.as') a)) (ap (passes t b) (node_at R n target h g) ∙ w.run target (omega arith) c))
        where
          fails : (counted b F.as' < a) ⊎ (a ≤ counted b F.as') → passes t b (nth N target) ≡ false
          fails (inl y) = ap (passes t b) (labels (counted b F.as') y) ∙ stop_fails t b 0 F.as' F.attributes F.above u y
          fails (inr y) =
              let z : counted b F.as' ≡ a = omega (arith, few) in
              let no' : attribute_row t (nth N target) ≡ false = ap (λ (j : ℕ). attribute_row t (nth N (i + (1 + j)))) z ∙ no_more (omega (arith, w.within)) in
              rw no'

  -- ---- behind the whole subtree

  -- the rows up to there are below the node, or below such rows
  below_it : (m : ℕ) → i < m → m < i + (1 + (a + size F.k)) → i ≤ up R m
  below_it m b c = go (cases_lt (m - (i + 1)) a)
    where
      g : m < n
      g = omega (arith, long, front_long)

      z : 0 < m
      z = omega arith

      direct : (nth N m).parent ≡ t → i ≤ up R m
      direct e = let u = up_is R n s.laid P i m l z g (ap (λ (x : Node). x.parent) (sym (node_at R n m h g)) ∙ e) in omega arith

      go : (m - (i + 1) < a) ⊎ (a ≤ m - (i + 1)) → i ≤ up R m
      go (inl x) =
          let y : m ≡ i + (1 + (m - (i + 1))) = omega arith in
          direct (ap (λ (j : ℕ). (nth N j).parent) y ∙ ap (λ (x : Node). x.parent) (labels (m - (i + 1)) x) ∙ label_parent t F.as' (m - (i + 1)) x)
      go (inr x) = by (all_at (Within t K) K j (inner t F.k) inn)
        where
          j : ℕ
          j = m - (i + 1) - a

          inn : j < length K
          inn = omega (arith, length_of_rows t F.k)

          y : m ≡ i + (1 + (a + j))
          y = omega arith

          here : nth N m ≡ nth K j
          here = ap (nth N) y ∙ beyond j ∙ get_or_append_left K F.back no_node j inn

          by : Within t K (nth K j) → i ≤ up R m
          by (inl e) = direct (ap (λ (x : Node). x.parent) here ∙ e)
          by (inr e) =
              let w = place_of (nth K j).parent K e in
              let p : ℕ = i + (1 + (a + w.0)) in
              let q : p < n = omega (arith, long, front_long, w.1, length_of_rows t F.k) in
              let at_p : nth N p ≡ nth K w.0 = beyond w.0 ∙ get_or_append_left K F.back no_node w.0 w.1 in
              let u = up_is R n s.laid P p m q z g (ap (λ (x : Node). x.parent) (sym (node_at R n m h g) ∙ here) ∙ sym w.2 ∙ ap (λ (x : Node). x.id) (sym at_p ∙ node_at R n p h q)) in
              omega arith

  -- and the row there is not
  behind_it : i + (1 + (a + size F.k)) < n → up R (i + (1 + (a + size F.k))) < i
  behind_it g = by F.back refl F.ends
    where
      m : ℕ
      m = i + (1 + (a + size F.k))

      here : nth N m ≡ nth F.back 0
      here =
          let z : size F.k ≡ length K + 0 = omega (arith, length_of_rows t F.k) in
          beyond (size F.k) ∙ ap (nth (K ++ F.back)) z ∙ get_or-append-add K F.back 0 no_node

      by : (back : List Node) → F.back ≡ back → Ends 0 F.front back → up R m < i
      by [] e w = absurd (omega (arith, long, front_long, ap length e))
      by (x ∷ ys) e (inl w) =
          let u : (at R m).node.parent ≡ 0 = ap (λ (y : Node). y.parent) (sym (node_at R n m h g) ∙ here ∙ ap (λ (zs : List Node). nth zs 0) e) ∙ w in
          absurd (omega (arith, parent_above R n s.laid P m (omega arith) g))
      by (x ∷ ys) e (inr (j, b, w)) =
          let c : j < n = omega (arith, front_long) in
          let v : nth N j ≡ nth F.front j = ap (λ (xs : List Node). nth xs j) split ∙ get_or_append_left F.front (row F.q F.r ∷ (A ++ (K ++ F.back))) no_node j b in
          let u = up_is R n s.laid P j m c (omega arith) g
          (ap (λ (y : Node). y.parent) (sym (node_at R n m h g) ∙ here ∙ ap (λ (zs : List Node). nth zs 0) e) ∙ sym w ∙ ap (λ (y : Node). y.id) (sym v ∙ node_at R n j h c)) in
          omega (arith, front_long)

  size_is_all : (at R i).size ≡ 1 + (a + size F.k)
  size_is_all = go (cases_order (at R i).size (1 + (a + size F.k)))
    where
      w : (0 < (at R i).size) × (i + (at R i).size ≤ n)
      w = s.laid.sized i l

      go : ((at R i).size ≡ 1 + (a + size F.k)) ⊎ (((at R i).size < 1 + (a + size F.k)) ⊎ (1 + (a + size F.k) < (at R i).size)) → (at R i).size ≡ 1 + (a + size F.k)
      go (inl e) = e
      go (inr (inl c)) =
          let m : ℕ = i + (at R i).size in
          let g : m < n = omega (arith, long, front_long) in
          let b = below_it m (omega (arith, w.0)) (omega arith) in
          absurd (omega (arith, up_before R n s.laid P m (omega (arith, w.0)) g, s.laid.outside i m l (omega arith) g b))
      go (inr (inr c)) =
          let g : i + (1 + (a + size F.k)) < n = omega (arith, w.1) in
          absurd (omega (arith, behind_it g, s.laid.inside i (i + (1 + (a + size F.k))) l (omega arith) (omega arith)))

  -- ---- the places of the listing

  stands : position t (listing (means R n)) ≡ i
  stands = ap (position t) s.listed ∙ S.place

  pub first_place : (r : ℕ) → Behind R n i (at R i).node.id None r → r ≡ place_behind (at R i).node.id past_attributes (means R n)
  first_place r w = omega (arith, stands, F.reads past_attributes, behind_is None r tt w)

  pub attribute_place : (x r : ℕ) → ((k : ℕ) → k < n → (at R k).node.id ≡ x → ⊥) → Behind R n i (at R i).node.id (Some x) r
      → r ≡ place_behind (at R i).node.id (past_smaller x) (means R n)
  attribute_place x r fresh w = omega (arith, stands, F.reads (past_smaller x), behind_is (Some x) r unbound w)
    where
      absent : times x N ≡ 0
      absent =
          no_times x N (λ k b e. let g : k < n = omega (arith, nodes_long R n h) in fresh k g (ap (λ (y : Node). y.id) (sym (node_at R n k h g)) ∙ e))

      unbound : count_labels x F.as' ≡ 0
      unbound =
          omega (
            arith,
            absent,
            ap (times x) split,
            times-++ x F.front (row F.q F.r ∷ (A ++ (K ++ F.back))),
            times-++ x A (K ++ F.back),
            times_labels x t F.as',
          )

  pub behind_place : i + (at R i).size ≡ place_behind (at R i).node.id past_all (means R n)
  behind_place = omega (arith, stands, F.reads past_all, size_is_all)
