-- A store's rows and index, what it holds, and its rows in use.
use Rattle.std.proofs.Common.{◌≡◌, ℕ, ◌+◌, ◌<◌, ◌≤◌, Bool, cond, ◌&&◌, ltb, ◌⊎◌, List, length, get_or, take, map, vec_items, Some, None, Option, refl, sym, ap, ◌∙◌, inl, inr, arith}
use Rattle.std.proofs.lemmas.List.{get_or_read, get_or-take, length-take-le, take_all}
use Rattle.std.specs.List.{slice_get}
use Rattle.std.proofs.lemmas.Option.{get_or_from_slice_get, slice_get_within, slice_get_cases}
use Rattle.std.proofs.lemmas.Bool.{cases_lt, le-ltb}
use Rattle.records.specs.declared.nodes.Node.{Node}
use Rattle.ordered.specs.declared.entries.RowOf.{RowOf}
use Rattle.store.specs.Listed.{child_row, attribute_row}
use Rattle.flat.specs.declared.rows.FlatRow.{FlatRow}
use Rattle.flat.specs.declared.flat_store.FlatStore.{FlatStore}
use Rattle.flat.specs.Means.{no_row, at, nodes, Laid, Plain, Stored}
use Rattle.flat.specs.Walks.{child_at, attribute_at, Behind}
use Rattle.flat.proofs.Certain.{stored}
use Rattle.flat.proofs.Standing.{plain}
use Rattle.flat.proofs.Keeping.{Alike, laid_alike}

module _ (me : FlatStore) where
  abbrev pub R : List FlatRow
  R = vec_items me.rows

  abbrev pub X : List RowOf
  X = vec_items me.index

  pub fits : me.used ≤ length R
  fits = omega arith

  pub index_fits : me.used ≤ length X
  index_fits = omega arith

  pub held : Stored R X me.used
  held = stored R X me.used me.stored

  pub in_order : Plain R me.used
  in_order = plain R X me.used fits held

  -- a row that was read
  pub read_at : (i : ℕ) (x : FlatRow) → i < me.used → x ≡ get_or R i x → x ≡ at R i
  read_at i x l e = get_or_read R i x (omega arith) e no_row

  -- ---- the rows in use, as a list of their own

  abbrev pub U : List FlatRow
  U = take me.used R

  pub used_long : length U ≡ me.used
  used_long = length-take-le me.used R fits

  pub used_at : (i : ℕ) → i < me.used → at U i ≡ at R i
  used_at i l = get_or-take me.used R i no_row l

  pub used_first : (x : FlatRow) → slice_get U 0 ≡ Some x → (0 < me.used) × (x ≡ at R 0)
  used_first x e =
      let l : 0 < me.used = omega (arith, slice_get_within U 0 x e, used_long) in (l, sym (get_or_from_slice_get U 0 x no_row e) ∙ used_at 0 l)

  pub used_none : slice_get U 0 ≡ None → me.used ≡ 0
  used_none e = go (slice_get_cases U 0).1
    where
      go : ((x : FlatRow) × (0 < length U) × (slice_get U 0 ≡ Some x) × (get_or U 0 x ≡ x)) ⊎ ((length U ≤ 0) × (slice_get U 0 ≡ None)) → me.used ≡ 0
      go (inl (x, l, s, g)) = let z : None ≡ Some x = sym e ∙ s in cc
      go (inr w) = omega (arith, w.0, used_long)

  pub used_nodes : nodes U (length U) ≡ nodes R me.used
  used_nodes = ap (map (λ (r : FlatRow). r.node)) (take_all (length U) U (omega arith))

  pub used_laid : Laid U (length U)
  used_laid = rw used_long (laid_alike R U me.used alike (held).laid)
    where
      alike : (k : ℕ) → k < me.used → Alike (at R k) (at U k)
      alike k l = rw (used_at k l) (record { distance = refl; size = refl; id = refl; parent = refl; kind = refl })

  pub used_plain : Plain U (length U)
  used_plain =
      rw used_long
      (record {
        above = λ k l. rw (used_at k l) (in_order.above k l);
        once = λ i j l m e. in_order.once i j l m (rw (used_at i l, used_at j m) at e);
        next = λ k l e. let m : k < me.used = omega arith in rw (used_at k m, used_at (k + 1) l) (in_order.next k l (rw (used_at (k + 1) l) at e));
        root = λ l. rw (used_at 0 l) (in_order.root l);
      })

  picked : (q : Node → Bool) (m : ℕ) → cond (ltb m (length U) && q (at U m).node) (at U m).node.id 0 ≡ cond (ltb m me.used && q (at R m).node) (at R m).node.id 0
  picked q m = go (cases_lt m me.used)
    where
      go : (m < me.used) ⊎ (me.used ≤ m) → cond (ltb m (length U) && q (at U m).node) (at U m).node.id 0 ≡ cond (ltb m me.used && q (at R m).node) (at R m).node.id 0
      go (inl l) = rw (used_long, used_at m l)
      go (inr l) = rw (used_long, le-ltb m me.used l)

  pub used_child : (m p : ℕ) → child_at U (length U) m p ≡ child_at R me.used m p
  used_child m p = picked (child_row p) m

  pub used_attribute : (m p : ℕ) → attribute_at U (length U) m p ≡ attribute_at R me.used m p
  used_attribute m p = picked (attribute_row p) m

  pub used_behind : (i r : ℕ) (b : Option ℕ) → i < me.used → Behind U (length U) i (at U i).node.id b r → Behind R me.used i (at R i).node.id b r
  used_behind i r b l w =
      let v = rw (used_long, used_at i l) at w in
      record {
        after = v.after;
        within = v.within;
        run = λ k a c. let g : k < me.used = omega (arith, v.within) in rw (used_at k g) at (v.run k a c);
        stop = λ g. rw (used_at r g) at (v.stop g);
      }
