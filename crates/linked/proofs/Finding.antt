-- What an index and its rows show: one look-up, and one row changed.
use Rattle.std.proofs.Common.{◌≡◌, ℕ, ◌<◌, ◌≤◌, Bool, true, false, cond, eqb, ◌≢◌, ◌⊎◌, List, length, get_or, set, Some, None, Option, sym, refl, ap, ◌∙◌, subst, inl, inr, arith, length-set, get_or-set_other, get_or-set_same}
use Rattle.std.specs.Option.{option_map}
use Rattle.std.proofs.lemmas.Bool.{eq-eqb, ne_eqb, eqb-true, cases_eq, cond-true, cond-false}
use Rattle.ordered.specs.declared.entries.RowOf.{RowOf}
use Rattle.ordered.specs.Entries.{LookedUp}
use Rattle.linked.specs.declared.row.Row.{Row}
use Rattle.linked.specs.declared.row.Siblings.{Siblings}
use Rattle.linked.specs.Rows.{with_left, with_first, with_next}
use Rattle.linked.specs.Tables.{Lookup, Shows, changed, led}

abbrev pub no_entry : RowOf
no_entry = record { id = 0; row = 0 }

-- a row that is found is one of the rows
pub found_inside : (ix : List RowOf) (n m : ℕ) → n ≤ length ix → ((k : ℕ) (e : RowOf) → k < length ix → (get_or ix k e).row < m) → (id r : ℕ) → LookedUp ix n id (Some r) → r < m
found_inside ix n m within inside id r h =
    let e = ap (λ (x : RowOf). x.row) (h.2 no_entry) in
    omega (arith, inside h.0 no_entry (omega (arith, h.1)))

module _ (ix : List RowOf) (rows : List Row) (n : ℕ) (look : Lookup) (s : Shows ix rows n look) where
  pub none_shown : (id : ℕ) → LookedUp ix n id None → look id ≡ None
  none_shown id h = go (look id) refl
    where
      go : (o : Option Row) → look id ≡ o → look id ≡ None
      go None e = e
      go (Some w) e = let k = s.every id w e in absurd (h k.0 no_entry k.1 (k.2 no_entry))

  row_inside : (id r : ℕ) → LookedUp ix n id (Some r) → r < length rows
  row_inside = found_inside ix n (length rows) s.within s.inside

  pub row_shown : (id r : ℕ) (w : Row) → LookedUp ix n id (Some r) → look id ≡ Some (get_or rows r w)
  row_shown id r w h =
      let e = h.2 no_entry in
      ap look (ap (λ (x : RowOf). x.id) (sym e)) ∙ s.shown h.0 no_entry w h.1 ∙ ap (λ (x : RowOf). Some (get_or rows x.row w)) e

  -- another row for one node
  module _ (id r : ℕ) (h : LookedUp ix n id (Some r)) (f : Row → Row) (x w₀ : Row) (is : x ≡ f (get_or rows r w₀)) where
    shown_here : (e : RowOf) (w : Row) → changed id f look (get_or ix h.0 e).id ≡ Some (get_or (set rows r x) (get_or ix h.0 e).row w)
    shown_here e w =
        let a : (get_or ix h.0 e).id ≡ id = ap (λ (y : RowOf). y.id) (h.2 e) in
        let b : (get_or ix h.0 e).row ≡ r = ap (λ (y : RowOf). y.row) (h.2 e) in
        let lt = row_inside id r h in
        rw (a, b) (cond-true (eqb id id) _ _ (eq-eqb id id refl) ∙ ap (option_map f) (row_shown id r w₀ h) ∙ ap Some (sym is ∙ sym (get_or-set_same rows r x w lt)))

    shown_there : (k : ℕ) (e : RowOf) (w : Row) → k < n → (k ≡ h.0 → ⊥) → changed id f look (get_or ix k e).id ≡ Some (get_or (set rows r x) (get_or ix k e).row w)
    shown_there k e w l ne =
        let a : get_or ix h.0 e ≡ record { id = id; row = r } = h.2 e in
        let i : (get_or ix k e).id ≢ id = λ q. ne (s.once k h.0 e l h.1 (q ∙ ap (λ (y : RowOf). y.id) (sym a))) in
        let g = s.within in
        let m = h.1 in
        let j : (get_or ix k e).row ≢ r = λ q. ne (s.apart k h.0 e (omega arith) (omega arith) (q ∙ ap (λ (y : RowOf). y.row) (sym a))) in
        cond-false (eqb (get_or ix k e).id id) _ _ (ne_eqb (get_or ix k e).id id i) ∙ s.shown k e w l ∙ ap Some (sym (get_or-set_other rows r (get_or ix k e).row x w j))

    shown_after : (k : ℕ) (e : RowOf) (w : Row) → k < n → (k ≡ h.0) ⊎ (k ≢ h.0) → changed id f look (get_or ix k e).id ≡ Some (get_or (set rows r x) (get_or ix k e).row w)
    shown_after k e w l (inl q) = subst (λ (i : ℕ). changed id f look (get_or ix i e).id ≡ Some (get_or (set rows r x) (get_or ix i e).row w)) (sym q) (shown_here e w)
    shown_after k e w l (inr q) = shown_there k e w l q

    -- a node with a row had one before
    had : (t : ℕ) (w : Row) → changed id f look t ≡ Some w → (x : Row) × (look t ≡ Some x)
    had t w e = go (eqb t id) (look t) refl e
      where
        go : (b : Bool) (o : Option Row) → look t ≡ o → cond b (option_map f o) o ≡ Some w → (x : Row) × (look t ≡ Some x)
        go b (Some x) q e = (x, q)
        go true None q e = let z : ◌≡◌ {A = ℕ} 0 1 = cc in absurd (omega arith)
        go false None q e = let z : ◌≡◌ {A = ℕ} 0 1 = cc in absurd (omega arith)

    pub row_changed : Shows ix (set rows r x) n (changed id f look)
    row_changed = record {
      within = s.within;
      equal = length-set rows r x ∙ s.equal;
      ascending = s.ascending;
      inside = λ k e l. rw (length-set rows r x) (s.inside k e l);
      apart = s.apart;
      shown = λ k e w l. shown_after k e w l (cases_eq k h.0);
      every = λ t w e. let v = had t w e in s.every t v.0 v.1;
      once = s.once;
    }

  -- where a node is absent no row changes
  pub none_changed : (id : ℕ) (f : Row → Row) → look id ≡ None → Shows ix rows n (changed id f look)
  none_changed id f z = record {
    within = s.within;
    equal = s.equal;
    ascending = s.ascending;
    inside = s.inside;
    apart = s.apart;
    shown = λ k e w l. same (get_or ix k e).id ∙ s.shown k e w l;
    every = λ t w e. s.every t w (sym (same t) ∙ e);
    once = s.once;
  }
    where
      same : (t : ℕ) → changed id f look t ≡ look t
      same t = go (eqb t id) refl
        where
          go : (b : Bool) → eqb t id ≡ b → changed id f look t ≡ look t
          go true e = let q : look t ≡ None = ap look (eqb-true t id e) ∙ z in rw (e, q)
          go false e = rw e

-- a change of rows adds no node and takes none away
none_stays : (t : ℕ) (f : Row → Row) (look : Lookup) (u : ℕ) → look u ≡ None → changed t f look u ≡ None
none_stays t f look u e = go (eqb u t)
  where
    go : (b : Bool) → cond b (option_map f (look u)) (look u) ≡ None
    go true = ap (option_map f) e
    go false = e

some_stays : (t : ℕ) (f : Row → Row) (look : Lookup) (u : ℕ) (w : Row) → look u ≡ Some w → (x : Row) × (changed t f look u ≡ Some x)
some_stays t f look u w e = go (eqb u t)
  where
    go : (b : Bool) → (x : Row) × (cond b (option_map f (look u)) (look u) ≡ Some x)
    go true = (f w, ap (option_map f) e)
    go false = (w, e)

module _ (among : Siblings) (p before t next s : ℕ) (look : Lookup) (u : ℕ) where
  pub none_around : look u ≡ None → changed next (with_left s) (led among p before t look) u ≡ None
  none_around e = none_stays next (with_left s) (led among p before t look) u (go (eqb before 0))
    where
      go : (b : Bool) → cond b (changed p (with_first among t) look) (changed before (with_next among t) look) u ≡ None
      go true = none_stays p (with_first among t) look u e
      go false = none_stays before (with_next among t) look u e

  pub some_around : (w : Row) → look u ≡ Some w → (x : Row) × (changed next (with_left s) (led among p before t look) u ≡ Some x)
  some_around w e = let y = go (eqb before 0) in some_stays next (with_left s) (led among p before t look) u y.0 y.1
    where
      go : (b : Bool) → (x : Row) × (cond b (changed p (with_first among t) look) (changed before (with_next among t) look) u ≡ Some x)
      go true = some_stays p (with_first among t) look u w e
      go false = some_stays before (with_next among t) look u w e
