-- A put: the tests before it, and what the store holds after it.
use Rattle.std.proofs.Common.{◌≡◌, ℕ, suc, ◌+◌, ◌-◌, ◌<◌, ◌≤◌, true, false, eqb, ◌⊎◌, List, ◌∷◌, length, take, drop, vec_len, None, Ok, Err, Result, sym, refl, ap, ◌∙◌, inl, inr, arith, length-append, length-drop}
use Rattle.std.specs.Result.{is_ok}
use Rattle.std.proofs.lemmas.List.{get_or-take, get_or-drop, get_or_append_left, get_or-append_right, length-take-le}
use Rattle.std.proofs.lemmas.Bool.{cases_order}
use Rattle.records.specs.Formed.{formed_node}
use Rattle.records.specs.declared.nodes.Node.{Node}
use Rattle.document.specs.Listing.{listing}
use Rattle.faults.specs.declared.StoreFault.{StoreFault}
use Rattle.faults.specs.declared.StoreFault.TheVariants.{Known, Full}
use Rattle.ordered.specs.declared.entries.RowOf.{RowOf}
use Rattle.store.specs.Views.{view}
use Rattle.store.specs.Says.{Answer, after, fits, put_says, put_leaves}
use Rattle.store.specs.Listed.{inserted_at}
use Rattle.store.proofs.Puts.{accepted, put_adds_one, put_keeps}
use Rattle.flat.specs.declared.rows.FlatRow.{FlatRow}
use Rattle.flat.specs.declared.rows.Spot.{Spot}
use Rattle.flat.specs.Means.{no_node, at, nodes, means, Laid, Plain, Stored}
use Rattle.flat.specs.Shifts.{Planted, Enlisted}
use Rattle.flat.specs.Spots.{Below, Suited, PutJudged}
use Rattle.flat.specs.declared.flat_store.FlatStore.{FlatStore}
use Rattle.flat.specs.Document.{document}
use Rattle.flat.specs.Judging.{Sought}
use Rattle.flat.proofs.Holding.{R as all, X as index, fits as enough, held}
use Rattle.flat.proofs.Tables.{nth, times_at}
use Rattle.flat.proofs.Standing.{nodes_long, node_at, plain, sight, listed_times}
use Rattle.flat.proofs.Answering.{size_is}
use Rattle.flat.proofs.Keeping.{means_listed, stored_from, same_nodes}
use Rattle.flat.proofs.Planting.{planted_laid, planted_node}
use Rattle.flat.proofs.Enlisting.{planted_indexed}

-- ---- a list with x at i

inserted_long : (i : ℕ) (x : Node) (xs : List Node) → i ≤ length xs → length (inserted_at i x xs) ≡ length xs + 1
inserted_long i x xs h = omega (arith, length-append (take i xs) (x ∷ drop i xs), length-take-le i xs h, length-drop i xs)

inserted_low : (i : ℕ) (x : Node) (xs : List Node) (k : ℕ) → i ≤ length xs → k < i → nth (inserted_at i x xs) k ≡ nth xs k
inserted_low i x xs k h l = get_or_append_left (take i xs) (x ∷ drop i xs) no_node k (omega (arith, length-take-le i xs h)) ∙ get_or-take i xs k no_node l

inserted_here : (i : ℕ) (x : Node) (xs : List Node) → i ≤ length xs → nth (inserted_at i x xs) i ≡ x
inserted_here i x xs h =
    let z : i - i ≡ 0 = omega arith in
    get_or-append_right (take i xs) (x ∷ drop i xs) i i no_node (length-take-le i xs h) (omega arith) ∙ ap (nth (x ∷ drop i xs)) z

inserted_high : (i : ℕ) (x : Node) (xs : List Node) (k : ℕ) → i ≤ length xs → i ≤ k → nth (inserted_at i x xs) (k + 1) ≡ nth xs k
inserted_high i x xs k h l =
    let z : k + 1 - i ≡ suc (k - i) = omega arith in
    let e : i + (k - i) ≡ k = omega arith in
    get_or-append_right (take i xs) (x ∷ drop i xs) i (k + 1) no_node (length-take-le i xs h) (omega arith) ∙ ap (nth (x ∷ drop i xs)) z ∙ get_or-drop i xs (k - i) no_node ∙ ap (nth xs) e

-- ---- the tests

module _ (me : FlatStore) (x : Node) (left : ℕ) where
  refused_put : (e : StoreFault) → Err e ≡ put_says (vec_len me.rows) (document me) x left → PutJudged me x left (Err e)
  refused_put e w = (w, λ new. ap (λ (a : Answer). after a new (document me)) w)

  pub known : formed_node x ≡ true → (r : Result ℕ StoreFault) → is_ok r ≡ true → Sought me x.id r → PutJudged me x left (Err Known)
  known f (Ok i) e w = refused_put Known (rw (f, (sight (all me) (index me) me.used (enough me) (held me) x.id i w.0 w.1).seen))
  known f (Err e') e w = cc

  pub unknown : (r : Result ℕ StoreFault) → is_ok r ≡ false → Sought me x.id r → view (document me) x.id ≡ None
  unknown (Ok i) e w = cc
  unknown (Err e') e w = w.1.seen

  module _ (formed : formed_node x ≡ true) (new : view (document me) x.id ≡ None) where
    pub full : fits (document me) x left ≡ true → eqb me.used (vec_len me.rows) ≡ true → PutJudged me x left (Err Full)
    full e f = refused_put Full (rw (formed, new, e, size_is (all me) (index me) me.used (enough me) (held me), f))

    pub suited : (g : Spot) → eqb me.used (vec_len me.rows) ≡ false → Suited (all me) me.used x left g → PutJudged me x left (Ok g)
    suited g f w = (rw (formed, new, w.fit, size_is (all me) (index me) me.used (enough me) (held me), f), w)

module _ (R : List FlatRow) (X : List RowOf) (n : ℕ) (h : n ≤ length R) (s : Stored R X n) (room : ℕ) (x : Node) (left : ℕ) where
  -- ---- the put

  pub room_left : Ok tt ≡ put_says room (means R n) x left → n ≤ room → n < room
  room_left says b =
      let a = (accepted room (means R n) x left (sym says)).room_left in
      let z : n ≡ room → ⊥ = λ e. a (size_is R X n h s ∙ e) in
      omega arith

  pub spot_within : (g : Spot) → Ok tt ≡ put_says room (means R n) x left → Suited R n x left g → g.place ≤ n
  spot_within g says w = omega (arith, w.place, (put_adds_one room (means R n) x left s.kept (sym says)).1, size_is R X n h s)

  pub spot_order : (g : Spot) → Suited R n x left g → g.parent ≤ g.place
  spot_order g w = by w.below
    where
      by : Below R n x g → g.parent ≤ g.place
      by (inl e) = omega (arith, e.2, e.3)
      by (inr e) = omega (arith, e.0.after)

  -- the rows from the place on are not the root's
  pub behind_root : (g : Spot) → Suited R n x left g → (k : ℕ) → g.place ≤ k → k < n → 0 < k
  behind_root g w k a b = by w.below
    where
      by : Below R n x g → 0 < k
      by (inl e) = absurd (omega (arith, e.0))
      by (inr e) = omega (arith, e.0.after)

  module _ (S : List FlatRow) (Z : List RowOf) (g : Spot) (says : Ok tt ≡ put_says room (means R n) x left) (w : Suited R n x left g) (within : n ≤ room)
      (T : Planted R n g.place g.parent x S) where
    abbrev i : ℕ
    i = g.place

    P : Plain R n
    P = plain R X n h s

    long : length (nodes R n) ≡ n
    long = nodes_long R n h

    place_fits : g.place ≤ n
    place_fits = spot_within g says w

    here : (at S i).node ≡ x
    here = ap (λ (r : FlatRow). r.node) T.here

    stands_by : Below R n x g → (k j : ℕ) → k < n → (k < i → j ≡ k) → (i ≤ k → j ≡ k + 1) → (at S j).node ≡ (at R k).node
    stands_by (inl e) k j a b c = absurd (omega (arith, e.0))
    stands_by (inr e) k j a b c = planted_node R S n g.parent g.place x s.laid P e.0 e.1 e.2 T k j a b c

    stands : (k j : ℕ) → k < n → (k < i → j ≡ k) → (i ≤ k → j ≡ k + 1) → (at S j).node ≡ (at R k).node
    stands = stands_by w.below

    laid_by : Below R n x g → Laid S (n + 1)
    laid_by (inr e) = planted_laid R S n g.parent g.place x s.laid P e.0 e.1 e.2 T
    laid_by (inl e) =
        record {
          backward = λ k a b. absurd (omega (arith, e.0));
          parented = λ k a b. absurd (omega (arith, e.0));
          sized = λ k a.
              let z : k ≡ i = omega (arith, e.0, e.3) in
              let one : (at S k).size ≡ 1 = ap (λ (m : ℕ). (at S m).size) z ∙ ap (λ (r : FlatRow). r.size) T.here in
              (omega arith, omega (arith, e.0));
          inside = λ a k b c d.
              let z : a ≡ i = omega (arith, e.0, e.3) in
              let one : (at S a).size ≡ 1 = ap (λ (m : ℕ). (at S m).size) z ∙ ap (λ (r : FlatRow). r.size) T.here in
              absurd (omega arith);
          outside = λ a k b c d f.
              let z : a ≡ i = omega (arith, e.0, e.3) in
              let one : (at S a).size ≡ 1 = ap (λ (m : ℕ). (at S m).size) z ∙ ap (λ (r : FlatRow). r.size) T.here in
              absurd (omega (arith, e.0));
        }

    fresh : (k : ℕ) → k < n → (at R k).node.id ≡ x.id → ⊥
    fresh k b e =
        let a = accepted room (means R n) x left (sym says) in
        let c : k < length (nodes R n) = omega (arith, long) in
        omega (arith, times_at x.id (nodes R n) k c (ap (λ (y : Node). y.id) (node_at R n k h b) ∙ e), listed_times (means R n) s.kept (nodes R n) s.listed x.id, a.new)

    planted_listed : n < length R → listing (put_leaves room (means R n) x left) ≡ nodes S (n + 1)
    planted_listed r =
        (put_adds_one room (means R n) x left s.kept (sym says)).0
        ∙ ap (λ (j : ℕ). inserted_at j x (listing (means R n))) (sym w.place)
        ∙ ap (inserted_at i x) s.listed
        ∙ same_nodes S (n + 1) (inserted_at i x (nodes R n)) (omega (arith, T.long)) (inserted_long i x (nodes R n) (omega (arith, long, place_fits)) ∙ ap (λ (m : ℕ). m + 1) long)
        (λ k b. each k b (cases_order k i))
      where
        each : (k : ℕ) → k < n + 1 → (k ≡ i) ⊎ ((k < i) ⊎ (i < k)) → nth (inserted_at i x (nodes R n)) k ≡ (at S k).node
        each k b (inl c) = ap (nth (inserted_at i x (nodes R n))) c ∙ inserted_here i x (nodes R n) (omega (arith, long, place_fits)) ∙ sym here ∙ ap (λ (m : ℕ). (at S m).node) (sym c)
        each k b (inr (inl c)) =
            let f : k < n = omega (arith, place_fits) in
            inserted_low i x (nodes R n) k (omega (arith, long, place_fits)) c ∙ node_at R n k h f ∙ sym (stands k k f (λ _. refl) (λ y. absurd (omega arith)))
        each k b (inr (inr c)) =
            let z : k - 1 + 1 ≡ k = omega arith in
            let f : k - 1 < n = omega arith in
            ap (nth (inserted_at i x (nodes R n))) (sym z) ∙ inserted_high i x (nodes R n) (k - 1) (omega (arith, long, place_fits)) (omega arith) ∙ node_at R n (k - 1) h f
            ∙ sym (stands (k - 1) k f (λ y. absurd (omega arith)) (λ _. sym z))

    pub planted_stored : n < length R → n < length X → Enlisted X n (record { id = x.id; row = g.place }) Z → Stored S Z (n + 1)
    planted_stored r q E =
        stored_from S Z (n + 1) (put_leaves room (means R n) x left) (put_keeps room (means R n) x left s.kept (omega (arith, size_is R X n h s))).0 (planted_listed r) (laid_by w.below)
        (planted_indexed R S X Z n (record { id = x.id; row = g.place }) s.indexed fresh stands (ap (λ (y : Node). y.id) here) place_fits q E)

    pub planted_means : n < length R → means S (n + 1) ≡ put_leaves room (means R n) x left
    planted_means r =
        means_listed S (n + 1) (put_leaves room (means R n) x left) (put_keeps room (means R n) x left s.kept (omega (arith, size_is R X n h s))).0 (planted_listed r)
