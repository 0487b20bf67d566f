-- An entry more and an entry fewer: where each entry stood before.
use Rattle.std.proofs.Common.{◌≡◌, ℕ, ◌+◌, ◌-◌, ◌<◌, ◌≤◌, Bool, true, false, cond, eqb, ltb, ◌≢◌, ◌⊎◌, List, length, get_or, set, Some, None, sym, refl, ap, ◌∙◌, subst, inl, inr, arith, length-set, get_or-set_other, get_or-set_same}
use Rattle.std.proofs.lemmas.Bool.{eq-eqb, ne_eqb, lt-ltb, le-ltb, eqb-true, eqb-false, cases_eq, cases_lt, cond-true, cond-false}
use Rattle.ordered.specs.declared.entries.RowOf.{RowOf}
use Rattle.ordered.specs.Table.{Placed, Closed, Ascending}
use Rattle.ordered.specs.Entries.{by_identifier}
use Rattle.linked.specs.declared.row.Row.{Row}
use Rattle.linked.specs.Tables.{Lookup, Shows, with_row, without_row}

-- where an entry stood before, and which of the moves it made
pub record Stood (moved : ℕ → ℕ) (xs ys : List RowOf) (k : ℕ) (e : RowOf) : Type 0 where
  pub from : ℕ
  pub same_row : (get_or ys k e).row ≡ (get_or xs from e).row
  pub now_at : k ≡ moved from
  pub inside : k < length xs → from < length xs

-- rows stay apart where entries only move
pub still_apart : (moved : ℕ → ℕ) (xs ys : List RowOf) → ((k : ℕ) (e : RowOf) → Stood moved xs ys k e)
    → ((j k : ℕ) (e : RowOf) → j < length xs → k < length xs → (get_or xs j e).row ≡ (get_or xs k e).row → j ≡ k)
    → (j k : ℕ) (e : RowOf) → j < length xs → k < length xs → (get_or ys j e).row ≡ (get_or ys k e).row → j ≡ k
still_apart moved xs ys st apart j k e a b q =
    let s = st j e in
    let t = st k e in
    s.now_at ∙ ap moved (apart s.from t.from e (s.inside a) (t.inside b) (sym s.same_row ∙ q ∙ t.same_row)) ∙ sym t.now_at

pub still_inside : (moved : ℕ → ℕ) (xs ys : List RowOf) (n : ℕ) → ((k : ℕ) (e : RowOf) → Stood moved xs ys k e) → ((k : ℕ) (e : RowOf) → k < length xs → (get_or xs k e).row < n)
    → (k : ℕ) (e : RowOf) → k < length xs → (get_or ys k e).row < n
still_inside moved xs ys n st inside k e a = let s = st k e in subst (λ (i : ℕ). i < n) (sym s.same_row) (inside s.from e (s.inside a))

-- ---- an entry more
abbrev pub raised : ℕ → ℕ → ℕ → ℕ
raised at used j = cond (eqb j used) at (cond (ltb j at) j (cond (ltb j used) (j + 1) j))

module _ (xs ys : List RowOf) (at used : ℕ) (x : RowOf) (p : Placed xs at used x ys) (free : (e : RowOf) → (get_or xs used e).row ≡ x.row) (room : used < length xs) where
  pub stood_up : (k : ℕ) (e : RowOf) → Stood (raised at used) xs ys k e
  stood_up k e = go (cases_lt k at) (cases_eq k at) (cases_lt used k)
    where
      go : (k < at) ⊎ (at ≤ k) → (k ≡ at) ⊎ (k ≢ at) → (used < k) ⊎ (k ≤ used) → Stood (raised at used) xs ys k e
      go (inl l) d u =
          let w = p.within in
          record { from = k; same_row = ap (λ (r : RowOf). r.row) (p.before k e l); now_at = rw (ne_eqb k used (λ q. omega arith), lt-ltb k at l); inside = λ i. i }
      go (inr l) (inl q) u =
          record { from = used; same_row = ap (λ (i : ℕ). (get_or ys i e).row) q ∙ ap (λ (r : RowOf). r.row) (p.here e) ∙ sym (free e); now_at = rw (eq-eqb used used refl) q; inside = λ i. room }
      go (inr l) (inr q) (inl u) =
          let w = p.within in
          record { from = k; same_row = ap (λ (r : RowOf). r.row) (p.after k e u); now_at = rw (ne_eqb k used (λ q. omega arith), le-ltb k at (omega arith), le-ltb k used (omega arith)); inside = λ i. i }
      go (inr l) (inr q) (inr u) =
          let m : at < k = omega arith in
          record {
            from = k - 1;
            same_row = ap (λ (r : RowOf). r.row) (p.moved k e m u);
            now_at = rw (ne_eqb (k - 1) used (λ q. omega arith), le-ltb (k - 1) at (omega arith), lt-ltb (k - 1) used (omega arith)) (omega arith);
            inside = λ i. omega arith;
          }

  -- an entry of the first ones is the new one, or stood among the first ones
  pub old_or_new : (k : ℕ) (e : RowOf) → k < used + 1 → (k ≡ at) ⊎ ((j : ℕ) × (j < used) × (get_or ys k e ≡ get_or xs j e) × (k ≡ raised at used j))
  old_or_new k e h = go (cases_lt k at) (cases_eq k at)
    where
      go : (k < at) ⊎ (at ≤ k) → (k ≡ at) ⊎ (k ≢ at) → (k ≡ at) ⊎ ((j : ℕ) × (j < used) × (get_or ys k e ≡ get_or xs j e) × (k ≡ raised at used j))
      go (inl l) d = let w = p.within in inr (k, omega arith, p.before k e l, rw (ne_eqb k used (λ q. omega arith), lt-ltb k at l))
      go (inr l) (inl q) = inl q
      go (inr l) (inr q) =
          inr (k - 1, omega arith, p.moved k e (omega arith) (omega arith), rw (ne_eqb (k - 1) used (λ c. omega arith), le-ltb (k - 1) at (omega arith), lt-ltb (k - 1) used (omega arith)) (omega arith))

  -- and each of the first ones stands where it was or one place behind
  pub old_stays : (j : ℕ) → j < used → (k : ℕ) × (k < used + 1) × ((e : RowOf) → get_or ys k e ≡ get_or xs j e)
  old_stays j h = go (cases_lt j at)
    where
      go : (j < at) ⊎ (at ≤ j) → (k : ℕ) × (k < used + 1) × ((e : RowOf) → get_or ys k e ≡ get_or xs j e)
      go (inl l) = (j, omega arith, λ e. p.before j e l)
      go (inr l) = (j + 1, omega arith, λ e. p.moved (j + 1) e (omega arith) (omega arith) ∙ ap (λ (i : ℕ). get_or xs i e) (omega arith))

module _ (xs ys : List RowOf) (rows : List Row) (n at : ℕ) (w : Row) (free : ℕ) (look : Lookup) (s : Shows xs rows n look) (new : look w.node.id ≡ None) (room : n < length xs)
    (p : Placed xs at n (record { id = w.node.id; row = free }) ys) (at_end : (e : RowOf) → (get_or xs n e).row ≡ free) (up : Ascending by_identifier (n + 1) ys) where
  others : (j : ℕ) (e : RowOf) → j < n → (get_or xs j e).id ≢ w.node.id
  others j e l q = let z : None ≡ Some (get_or rows (get_or xs j e).row w) = sym new ∙ ap look (sym q) ∙ s.shown j e w l in let y : ◌≡◌ {A = ℕ} 0 1 = cc in omega arith

  -- the free row is no other node's
  other_row : (j : ℕ) (e : RowOf) → j < n → free ≢ (get_or xs j e).row
  other_row j e l q = let h : n ≡ j = s.apart n j e room (omega arith) (at_end e ∙ q) in omega arith

  -- the other nodes, where they stand now
  shown_old : (j : ℕ) (e : RowOf) (v : Row) → j < n → with_row w.node.id w look (get_or xs j e).id ≡ Some (get_or (set rows free w) (get_or xs j e).row v)
  shown_old j e v l =
      cond-false (eqb (get_or xs j e).id w.node.id) _ _ (ne_eqb _ _ (others j e l)) ∙ s.shown j e v l ∙ ap Some (sym (get_or-set_other rows free (get_or xs j e).row w v (λ q. other_row j e l (sym q))))

  here_is : (e : RowOf) → get_or ys at e ≡ record { id = w.node.id; row = free }
  here_is e = p.here e

  shown_new : (e : RowOf) (v : Row) → with_row w.node.id w look (get_or ys at e).id ≡ Some (get_or (set rows free w) (get_or ys at e).row v)
  shown_new e v =
      let lt : free < length rows = subst (λ (i : ℕ). i < length rows) (at_end e) (s.inside n e room) in
      rw (here_is e) (cond-true (eqb w.node.id w.node.id) _ _ (eq-eqb w.node.id w.node.id refl) ∙ ap Some (sym (get_or-set_same rows free w v lt)))

  StoodBefore : ℕ → RowOf → Type 0
  StoodBefore k e = (k ≡ at) ⊎ ((j : ℕ) × (j < n) × (get_or ys k e ≡ get_or xs j e) × (k ≡ raised at n j))

  before : (k : ℕ) (e : RowOf) → k < n + 1 → StoodBefore k e
  unfolding StoodBefore
  before = old_or_new xs ys at n (record { id = w.node.id; row = free }) p at_end room

  shown_now : (k : ℕ) (e : RowOf) (v : Row) → StoodBefore k e → with_row w.node.id w look (get_or ys k e).id ≡ Some (get_or (set rows free w) (get_or ys k e).row v)
  unfolding StoodBefore
  shown_now k e v (inl q) = subst (λ (i : ℕ). with_row w.node.id w look (get_or ys i e).id ≡ Some (get_or (set rows free w) (get_or ys i e).row v)) (sym q) (shown_new e v)
  shown_now k e v (inr h) = subst (λ (x : RowOf). with_row w.node.id w look x.id ≡ Some (get_or (set rows free w) x.row v)) (sym h.2) (shown_old h.0 e v h.1)

  -- the identifier of the new entry is no other's
  new_alone : (k : ℕ) (e : RowOf) → StoodBefore k e → (get_or ys k e).id ≡ (get_or ys at e).id → k ≡ at
  unfolding StoodBefore
  new_alone k e (inl q) h = q
  new_alone k e (inr b) h = absurd (others b.0 e b.1 (ap (λ (x : RowOf). x.id) (sym b.2) ∙ h ∙ ap (λ (x : RowOf). x.id) (p.here e)))

  once_now : (j k : ℕ) (e : RowOf) → StoodBefore j e → StoodBefore k e → (get_or ys j e).id ≡ (get_or ys k e).id → j ≡ k
  unfolding StoodBefore
  once_now j k e (inl a) b h = a ∙ sym (new_alone k e b (sym h ∙ ap (λ (i : ℕ). (get_or ys i e).id) a))
  once_now j k e (inr a) (inl b) h = new_alone j e (inr a) (h ∙ ap (λ (i : ℕ). (get_or ys i e).id) b) ∙ sym b
  once_now j k e (inr a) (inr b) h =
      a.3 ∙ ap (raised at n) (s.once a.0 b.0 e a.1 b.1 (ap (λ (x : RowOf). x.id) (sym a.2) ∙ h ∙ ap (λ (x : RowOf). x.id) b.2)) ∙ sym b.3

  every_now : (t : ℕ) (v : Row) → with_row w.node.id w look t ≡ Some v → (k : ℕ) × (k < n + 1) × ((e : RowOf) → (get_or ys k e).id ≡ t)
  every_now t v h = go (eqb t w.node.id) refl h
    where
      go : (b : Bool) → eqb t w.node.id ≡ b → cond b (Some w) (look t) ≡ Some v → (k : ℕ) × (k < n + 1) × ((e : RowOf) → (get_or ys k e).id ≡ t)
      go true q h = let i = p.within in (at, omega arith, λ e. ap (λ (x : RowOf). x.id) (p.here e) ∙ sym (eqb-true t w.node.id q))
      go false q h =
          let o = s.every t v h in
          let k = old_stays xs ys at n (record { id = w.node.id; row = free }) p at_end room o.0 o.1 in
          (k.0, k.1, λ e. ap (λ (x : RowOf). x.id) (k.2 e) ∙ o.2 e)

  pub entered : Shows ys (set rows free w) (n + 1) (with_row w.node.id w look)
  entered =
      let l = p.long in
      let stood = stood_up xs ys at n (record { id = w.node.id; row = free }) p at_end room in
      let m = length-set rows free w in
      let eq = s.equal in
      record {
        within = omega arith;
        equal = m ∙ eq ∙ sym l;
        ascending = up;
        inside = λ k e h. subst (λ (i : ℕ). (get_or ys k e).row < i) (sym m) (still_inside (raised at n) xs ys (length rows) stood s.inside k e (omega arith));
        apart = λ j k e a b. still_apart (raised at n) xs ys stood s.apart j k e (omega arith) (omega arith);
        shown = λ k e v h. shown_now k e v (before k e h);
        every = every_now;
        once = λ j k e a b. once_now j k e (before j e a) (before k e b);
      }

-- ---- an entry fewer: the one at `at`, which then stands behind the first ones
abbrev pub lowered : ℕ → ℕ → ℕ → ℕ
lowered at used j = cond (eqb j at) (used - 1) (cond (ltb j at) j (cond (ltb j used) (j - 1) j))

module _ (xs ys : List RowOf) (at used : ℕ) (x : RowOf) (c : Closed xs at used ys) (is : (e : RowOf) → x ≡ get_or xs at e) (lt : at < used) (within : used ≤ length xs) where
  last_place : (e : RowOf) → get_or (set ys (used - 1) x) (used - 1) e ≡ x
  last_place e = let l = c.long in get_or-set_same ys (used - 1) x e (omega arith)

  elsewhere : (k : ℕ) (e : RowOf) → (used - 1 ≡ k → ⊥) → get_or (set ys (used - 1) x) k e ≡ get_or ys k e
  elsewhere k e ne = get_or-set_other ys (used - 1) k x e (λ q. ne (sym q))

  -- an entry of the first ones stood among them
  pub remaining : (k : ℕ) (e : RowOf) → k < used - 1 → (j : ℕ) × (j < used) × (get_or (set ys (used - 1) x) k e ≡ get_or xs j e) × (j ≢ at) × (k ≡ lowered at used j)
  remaining k e h = go (cases_lt k at)
    where
      go : (k < at) ⊎ (at ≤ k) → (j : ℕ) × (j < used) × (get_or (set ys (used - 1) x) k e ≡ get_or xs j e) × (j ≢ at) × (k ≡ lowered at used j)
      go (inl l) = (k, omega arith, elsewhere k e (λ q. omega arith) ∙ c.before k e l, λ q. omega arith, rw (ne_eqb k at (λ q. omega arith), lt-ltb k at l))
      go (inr l) = (
        k + 1,
        omega arith,
        elsewhere k e (λ q. omega arith) ∙ c.moved k e l (omega arith),
        λ q. omega arith,
        rw (ne_eqb (k + 1) at (λ q. omega arith), le-ltb (k + 1) at (omega arith), lt-ltb (k + 1) used (omega arith)) (omega arith),
      )

  pub remains : (j : ℕ) → j < used → j ≢ at → (k : ℕ) × (k < used - 1) × ((e : RowOf) → get_or (set ys (used - 1) x) k e ≡ get_or xs j e)
  remains j h ne = go (cases_lt j at)
    where
      go : (j < at) ⊎ (at ≤ j) → (k : ℕ) × (k < used - 1) × ((e : RowOf) → get_or (set ys (used - 1) x) k e ≡ get_or xs j e)
      go (inl l) = (j, omega arith, λ e. elsewhere j e (λ q. omega arith) ∙ c.before j e l)
      go (inr l) = (j - 1, omega arith, λ e. elsewhere (j - 1) e (λ q. omega arith) ∙ c.moved (j - 1) e (omega arith) (omega arith) ∙ ap (λ (i : ℕ). get_or xs i e) (omega arith))

  pub stood_down : (k : ℕ) (e : RowOf) → Stood (lowered at used) xs (set ys (used - 1) x) k e
  stood_down k e = go (cases_lt k (used - 1)) (cases_eq (used - 1) k)
    where
      go : (k < used - 1) ⊎ (used - 1 ≤ k) → (used - 1 ≡ k) ⊎ (used - 1 ≢ k) → Stood (lowered at used) xs (set ys (used - 1) x) k e
      go (inl l) d =
          let r = remaining k e l in
          let i = r.1 in
          record { from = r.0; same_row = ap (λ (y : RowOf). y.row) r.2; now_at = r.4; inside = λ h. omega arith }
      go (inr l) (inl q) =
          record { from = at; same_row = ap (λ (i : ℕ). (get_or (set ys (used - 1) x) i e).row) (sym q) ∙ ap (λ (y : RowOf). y.row) (last_place e ∙ is e); now_at = rw (eq-eqb at at refl) (sym q); inside = λ h. omega arith }
      go (inr l) (inr q) =
          record {
            from = k;
            same_row = ap (λ (y : RowOf). y.row) (elsewhere k e q ∙ c.after k e (omega arith));
            now_at = rw (ne_eqb k at (λ z. omega arith), le-ltb k at (omega arith), le-ltb k used (omega arith));
            inside = λ h. h;
          }

module _ (xs ys : List RowOf) (rows : List Row) (n at id : ℕ) (x : RowOf) (look : Lookup) (s : Shows xs rows n look) (found : (e : RowOf) → (get_or xs at e).id ≡ id) (lt : at < n)
    (c : Closed xs at n ys) (is : (e : RowOf) → x ≡ get_or xs at e) (up : Ascending by_identifier (n - 1) (set ys (n - 1) x)) where
  rest : (k : ℕ) (e : RowOf) → k < n - 1 → (j : ℕ) × (j < n) × (get_or (set ys (n - 1) x) k e ≡ get_or xs j e) × (j ≢ at) × (k ≡ lowered at n j)
  rest = remaining xs ys at n x c is lt s.within

  others_left : (j : ℕ) (e : RowOf) → j < n → j ≢ at → (get_or xs j e).id ≢ id
  others_left j e l ne q = ne (s.once j at e l lt (q ∙ sym (found e)))

  shown_left : (k : ℕ) (e : RowOf) (v : Row) → k < n - 1 → without_row id look (get_or (set ys (n - 1) x) k e).id ≡ Some (get_or rows (get_or (set ys (n - 1) x) k e).row v)
  shown_left k e v h =
      let r = rest k e h in
      subst (λ (y : RowOf). without_row id look y.id ≡ Some (get_or rows y.row v)) (sym r.2)
      (cond-false (eqb (get_or xs r.0 e).id id) _ _ (ne_eqb _ _ (others_left r.0 e r.1 r.3)) ∙ s.shown r.0 e v r.1)

  every_left : (t : ℕ) (v : Row) → without_row id look t ≡ Some v → (k : ℕ) × (k < n - 1) × ((e : RowOf) → (get_or (set ys (n - 1) x) k e).id ≡ t)
  every_left t v h = go (eqb t id) refl h
    where
      go : (b : Bool) → eqb t id ≡ b → cond b None (look t) ≡ Some v → (k : ℕ) × (k < n - 1) × ((e : RowOf) → (get_or (set ys (n - 1) x) k e).id ≡ t)
      go true q h = let z : ◌≡◌ {A = ℕ} 0 1 = cc in absurd (omega arith)
      go false q h =
          let o = s.every t v h in
          let ne : o.0 ≢ at = λ a. eqb-false t id q (sym (o.2 x) ∙ ap (λ (i : ℕ). (get_or xs i x).id) a ∙ found x) in
          let k = remains xs ys at n x c is lt s.within o.0 o.1 ne in
          (k.0, k.1, λ e. ap (λ (y : RowOf). y.id) (k.2 e) ∙ o.2 e)

  once_left : (j k : ℕ) (e : RowOf) → j < n - 1 → k < n - 1 → (get_or (set ys (n - 1) x) j e).id ≡ (get_or (set ys (n - 1) x) k e).id → j ≡ k
  once_left j k e a b h =
      let r = rest j e a in
      let q = rest k e b in
      r.4 ∙ ap (lowered at n) (s.once r.0 q.0 e r.1 q.1 (ap (λ (y : RowOf). y.id) (sym r.2) ∙ h ∙ ap (λ (y : RowOf). y.id) q.2)) ∙ sym q.4

  pub left : Shows (set ys (n - 1) x) rows (n - 1) (without_row id look)
  left =
      let l = c.long in
      let m = length-set ys (n - 1) x in
      let eq = s.equal in
      let w = s.within in
      let stood = stood_down xs ys at n x c is lt s.within in
      record {
        within = omega arith;
        equal = eq ∙ sym (m ∙ l);
        ascending = up;
        inside = λ k e h. still_inside (lowered at n) xs (set ys (n - 1) x) (length rows) stood s.inside k e (omega arith);
        apart = λ j k e a b. still_apart (lowered at n) xs (set ys (n - 1) x) stood s.apart j k e (omega arith) (omega arith);
        shown = λ k e v h. shown_left k e v h;
        every = every_left;
        once = λ j k e a b. once_left j k e a b;
      }

-- entries behind the first ones have no part in their order
pub ascending_before : (xs : List RowOf) (n i : ℕ) (x : RowOf) → n ≤ i → Ascending by_identifier n xs → Ascending by_identifier n (set xs i x)
ascending_before xs n i x h up j k e l m =
    let a = get_or-set_other xs i j x e (λ q. omega arith) in
    let b = get_or-set_other xs i k x e (λ q. omega arith) in
    rw (a, b) (up j k e l m)
