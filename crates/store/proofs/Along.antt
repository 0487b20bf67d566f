-- A change at one node of a row of trees: what holds at the node, and is carried from the children and from the trees behind
-- to the whole row, holds of the row.
use Rattle.std.proofs.Common.{◌≡◌, ℕ, ◌+◌, ◌≤◌, Bool, true, false, cond, eqb, ltb, List, [], ◌∷◌, Some, None, Option, sym, refl, ap, ◌∙◌, arith}
use Rattle.std.specs.Option.{option_map}
use Rattle.std.proofs.lemmas.Bool.{ltb-true, ltb-false, lt-ltb}
use Rattle.document.specs.Tree.{Label, Forest, nil, node, one, count_labels, count}
use Rattle.document.proofs.Counting.{one_zero}
use Rattle.store.specs.Views.{View, node_view, attribute_view, or_else, view_attribute, view_in}
use Rattle.store.specs.Writes.{act}
use Rattle.store.specs.Says.{is_there}

pub mapped_else : (g : View → View) (o q : Option View) → option_map g (or_else o q) ≡ or_else (option_map g o) (option_map g q)
mapped_else g None q = refl
mapped_else g (Some v) q = refl

-- a node is seen where its identifier stands
there_labels : (t p : ℕ) (as' : List Label) → is_there (view_attribute t p as') ≡ ltb 0 (count_labels t as')
there_labels t p [] = refl
there_labels t p (r ∷ l) = go (eqb r.id t) (there_labels t p l)
  where
    go : (b : Bool) → is_there (view_attribute t p l) ≡ ltb 0 (count_labels t l)
        → is_there (cond b (Some (attribute_view p r l)) (view_attribute t p l)) ≡ ltb 0 (one b + count_labels t l)
    go true ih = sym (lt-ltb 0 (1 + count_labels t l) (omega arith))
    go false ih = ih ∙ ap (λ (n : ℕ). ltb 0 n) (omega arith)

there_else : (o q : Option View) (m n : ℕ) → is_there o ≡ ltb 0 m → is_there q ≡ ltb 0 n → is_there (or_else o q) ≡ ltb 0 (m + n)
there_else None q m n e h = let z = ltb-false 0 m (sym e) in h ∙ ap (λ (n : ℕ). ltb 0 n) (omega arith)
there_else (Some v) q m n e h = let z = ltb-true 0 m (sym e) in sym (lt-ltb 0 (m + n) (omega arith))

pub there : (t p l : ℕ) (d : Forest) → is_there (view_in t p l d) ≡ ltb 0 (count t d)
there t p l nil = refl
there t p l (node r as' k f) = go (eqb r.id t) (there t r.id 0 k) (there t p r.id f)
  where
    go : (b : Bool) → is_there (view_in t r.id 0 k) ≡ ltb 0 (count t k) → is_there (view_in t p r.id f) ≡ ltb 0 (count t f)
        → is_there (cond b (Some (node_view p l r as' k f)) (or_else (view_attribute t r.id as') (or_else (view_in t r.id 0 k) (view_in t p r.id f))))
        ≡ ltb 0 (one b + (count_labels t as' + (count t k + count t f)))
    go true i j = sym (lt-ltb 0 (1 + (count_labels t as' + (count t k + count t f))) (omega arith))
    go false i j =
        there_else (view_attribute t r.id as') (or_else (view_in t r.id 0 k) (view_in t p r.id f)) (count_labels t as') (count t k + count t f)
        (there_labels t r.id as') (there_else (view_in t r.id 0 k) (view_in t p r.id f) (count t k) (count t f) i j)
        ∙ ap (λ (n : ℕ). ltb 0 n) (omega arith)

pub seen_label : (t p : ℕ) (as' : List Label) (v : View) → view_attribute t p as' ≡ Some v → 1 ≤ count_labels t as'
seen_label t p as' v e = omega (arith, ltb-true 0 (count_labels t as') (sym (there_labels t p as') ∙ ap is_there e))

pub unseen_label : (t p : ℕ) (as' : List Label) → view_attribute t p as' ≡ None → count_labels t as' ≡ 0
unseen_label t p as' e = omega (arith, ltb-false 0 (count_labels t as') (sym (there_labels t p as') ∙ ap is_there e))

pub seen : (t p l : ℕ) (d : Forest) (v : View) → view_in t p l d ≡ Some v → 1 ≤ count t d
seen t p l d v e = omega (arith, ltb-true 0 (count t d) (sym (there t p l d) ∙ ap is_there e))

pub unseen : (t p l : ℕ) (d : Forest) → view_in t p l d ≡ None → count t d ≡ 0
unseen t p l d e = omega (arith, ltb-false 0 (count t d) (sym (there t p l d) ∙ ap is_there e))

none_there : (o : Option View) → is_there o ≡ false → o ≡ None
none_there None e = refl
none_there (Some v) e = cc

pub absent_label : (t p : ℕ) (as' : List Label) → count_labels t as' ≡ 0 → view_attribute t p as' ≡ None
absent_label t p as' z = none_there (view_attribute t p as') (there_labels t p as' ∙ ap (λ (n : ℕ). ltb 0 n) z)

pub absent : (t p l : ℕ) (d : Forest) → count t d ≡ 0 → view_in t p l d ≡ None
absent t p l d z = none_there (view_in t p l d) (there t p l d ∙ ap (λ (n : ℕ). ltb 0 n) z)

module _ (t : ℕ) (in_row : List Label → List Label) (at : Label → List Label → Forest → Forest → Forest) where
  -- where the node t is absent nothing changes
  abbrev pub Still : Type 0
  Still = (as' : List Label) → count_labels t as' ≡ 0 → in_row as' ≡ as'

  pub untouched : Still → (d : Forest) → count t d ≡ 0 → act t in_row at d ≡ d
  untouched still nil z = refl
  untouched still (node r as' k f) z =
      let e : eqb r.id t ≡ false = one_zero (eqb r.id t) (omega arith) in
      rw (e, still as' (omega arith), untouched still k (omega arith), untouched still f (omega arith))

  -- P p l d d': of a row d below p and behind l that is changed to d'
  pub record Steps (v : View) (P : ℕ → ℕ → Forest → Forest → Type 0) : Type 0 where
    pub at_node : (p l : ℕ) (r : Label) (as' : List Label) (k f : Forest) → eqb r.id t ≡ true → v ≡ node_view p l r as' k f
        → count_labels t as' ≡ 0 → count t k ≡ 0 → count t f ≡ 0 → P p l (node r as' k f) (at r as' k f)
    pub at_label : (p l : ℕ) (r : Label) (as' : List Label) (k f : Forest) → eqb r.id t ≡ false → view_attribute t r.id as' ≡ Some v
        → count_labels t as' ≡ 1 → count t k ≡ 0 → count t f ≡ 0 → P p l (node r as' k f) (node r (in_row as') k f)
    pub below : (p l : ℕ) (r : Label) (as' : List Label) (k k' f : Forest) → eqb r.id t ≡ false
        → count_labels t as' ≡ 0 → 1 ≤ count t k → count t f ≡ 0 → P r.id 0 k k' → P p l (node r as' k f) (node r as' k' f)
    pub behind : (p l : ℕ) (r : Label) (as' : List Label) (k f f' : Forest) → eqb r.id t ≡ false
        → count_labels t as' ≡ 0 → count t k ≡ 0 → 1 ≤ count t f → P p r.id f f' → P p l (node r as' k f) (node r as' k f')

  module _ (still : Still) (v : View) (P : ℕ → ℕ → Forest → Forest → Type 0) (s : Steps v P) where
    pub along : (d : Forest) (p l : ℕ) → count t d ≤ 1 → view_in t p l d ≡ Some v → P p l d (act t in_row at d)
    along nil p l c e = let z : ◌≡◌ {A = ℕ} 0 1 = cc in absurd (omega arith)
    along (node r as' k f) p l c e = here (eqb r.id t) refl e (along k r.id 0) (along f p r.id)
      where
        InChildren : Type 0
        InChildren = count t k ≤ 1 → view_in t r.id 0 k ≡ Some v → P r.id 0 k (act t in_row at k)

        Behind : Type 0
        Behind = count t f ≤ 1 → view_in t p r.id f ≡ Some v → P p r.id f (act t in_row at f)

        in_forests : (o : Option View) → view_in t r.id 0 k ≡ o → eqb r.id t ≡ false → count_labels t as' ≡ 0 → or_else o (view_in t p r.id f) ≡ Some v
            → InChildren → Behind
            → P p l (node r as' k f) (node r (in_row as') (act t in_row at k) (act t in_row at f))
        in_forests (Some w) o h z e i j =
            let here = seen t r.id 0 k w o in
            let once : count t k ≤ 1 = omega arith in
            let none : count t f ≡ 0 = omega arith in
            rw (still as' z, untouched still f none) (s.below p l r as' k (act t in_row at k) f h z here none (i once (o ∙ e)))
        in_forests None o h z e i j =
            let none = unseen t r.id 0 k o in
            let there = seen t p r.id f v e in
            let once : count t f ≤ 1 = omega arith in
            rw (still as' z, untouched still k none) (s.behind p l r as' k f (act t in_row at f) h z none there (j once e))

        in_labels : (o : Option View) → view_attribute t r.id as' ≡ o → eqb r.id t ≡ false
            → or_else o (or_else (view_in t r.id 0 k) (view_in t p r.id f)) ≡ Some v
            → InChildren → Behind
            → P p l (node r as' k f) (node r (in_row as') (act t in_row at k) (act t in_row at f))
        in_labels (Some w) o h e i j =
            let here = seen_label t r.id as' w o in
            let none_below : count t k ≡ 0 = omega arith in
            let none_behind : count t f ≡ 0 = omega arith in
            rw (untouched still k none_below, untouched still f none_behind) (s.at_label p l r as' k f h (o ∙ e) (omega arith) none_below none_behind)
        in_labels None o h e i j = in_forests (view_in t r.id 0 k) refl h (unseen_label t r.id as' o) e i j

        here : (b : Bool) → eqb r.id t ≡ b → cond b (Some (node_view p l r as' k f)) (or_else (view_attribute t r.id as') (or_else (view_in t r.id 0 k) (view_in t p r.id f))) ≡ Some v
            → InChildren → Behind
            → P p l (node r as' k f) (cond b (at r (in_row as') (act t in_row at k) (act t in_row at f)) (node r (in_row as') (act t in_row at k) (act t in_row at f)))
        here true h e i j =
            let w : one (eqb r.id t) ≡ 1 = ap one h in
            let none : count_labels t as' ≡ 0 = omega arith in
            let none_below : count t k ≡ 0 = omega arith in
            let none_behind : count t f ≡ 0 = omega arith in
            let seen_here : v ≡ node_view p l r as' k f = cc in
            rw (still as' none, untouched still k none_below, untouched still f none_behind) (s.at_node p l r as' k f h seen_here none none_below none_behind)
        here false h e i j = in_labels (view_attribute t r.id as') refl h e i j
