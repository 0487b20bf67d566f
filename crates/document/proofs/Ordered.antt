-- A table in document order lists the trees that are gathered from it, and these are sound.
use Rattle.std.proofs.Common.{◌≡◌, ℕ, ◌+◌, ◌≤◌, Bool, true, false, ◌&&◌, eqb, ltb, List, [], ◌∷◌, ◌++◌, Some, None, Option, sym, refl, ap, ◌∙◌, true≢false, append_assoc, arith}
use Rattle.std.proofs.lemmas.Bool.{eq-eqb, eqb-true, and_parts, ltb-true, ltb-false}
use Rattle.records.specs.declared.nodes.Kind.{Kind}
use Rattle.records.specs.declared.nodes.Kind.TheVariants.{Element, Attribute, Text}
use Rattle.records.specs.declared.nodes.Node.{Node}
use Rattle.document.specs.Tree.{Label, Forest, nil, one, count_names, Above, Formed, Attributes, Holds, Sound}
use Rattle.document.specs.Listing.{row, label, attribute_rows, rows}
use Rattle.document.specs.Table.{name_key, closed_to, innermost, opened, takes_above, taken, is_attribute, attached, order_from, Group, attributes_for, children_for, without, with_attribute, with_tree, groups}
use Rattle.document.proofs.Counting.{one_refl, eqb_sym, above_uncounted, count_open, count_rows, count_key, count_key-++}
use Rattle.document.proofs.Gathering.{formed_above, Clear, clear_attributes, clear_children, clear_without}
use Rattle.document.proofs.Tested.{passed, AllFormed}

-- the innermost element is open, and closing elements opens none
pub innermost_open : (p : ℕ) (es : List ℕ) → innermost p es ≡ true → 1 ≤ count_open p es
innermost_open p [] h = absurd (true≢false (sym h))
innermost_open p (e ∷ es) h = let u : one (eqb e p) ≡ 1 = rw h in omega arith

pub closed_count : (t p : ℕ) (es : List ℕ) → count_open t (closed_to p es) ≤ count_open t es
closed_count t p [] = omega arith
closed_count t p (e ∷ es) = go (eqb e p) refl (closed_count t p es)
  where
    go : (b : Bool) → eqb e p ≡ b → count_open t (closed_to p es) ≤ count_open t es → count_open t (closed_to p (e ∷ es)) ≤ count_open t (e ∷ es)
    go true q h = rw q (omega arith)
    go false q h = rw q (omega arith)

pub opened_count : (t : ℕ) (c : Kind) (i : ℕ) (es : List ℕ) → count_open t (opened c i es) ≤ one (eqb i t) + count_open t es
opened_count t Element i es = omega arith
opened_count t Attribute i es = omega arith
opened_count t Text i es = omega arith

-- what a node in order says of the open elements, and the order of the nodes behind it
attribute_step : (x : Node) (xs : List Node) (es : List ℕ) (above : Option ℕ) (n : ℕ) → attached x ≡ true → order_from es above n (x ∷ xs) ≡ None
    → (innermost x.parent es ≡ true) × (taken above x.id ≡ true) × (order_from es (Some x.id) (n + 1) xs ≡ None)
attribute_step x xs es above n q h =
    let u = passed (innermost x.parent es && taken above x.id) (order_from es (Some x.id) (n + 1) xs) n (rw q at h) in
    let v = and_parts (innermost x.parent es) (taken above x.id) u.0 in
    (v.0, v.1, u.1)

node_step : (x : Node) (xs : List Node) (es : List ℕ) (above : Option ℕ) (n : ℕ) → attached x ≡ false → order_from es above n (x ∷ xs) ≡ None
    → (innermost x.parent (closed_to x.parent es) ≡ true)
    × (order_from (opened x.kind x.id (closed_to x.parent es)) (takes_above x.kind) (n + 1) xs ≡ None)
node_step x xs es above n q h =
    passed (innermost x.parent (closed_to x.parent es))
    (order_from (opened x.kind x.id (closed_to x.parent es)) (takes_above x.kind) (n + 1) xs) n (rw q at h)

-- an element that stays open was open
pub closed_open : (p : ℕ) (es : List ℕ) → innermost p (closed_to p es) ≡ true → 1 ≤ count_open p es
closed_open p es h = omega (arith, innermost_open p (closed_to p es) h, closed_count p p es)

-- the parent of the next node is open
parent_open : (x : Node) (xs : List Node) (es : List ℕ) (above : Option ℕ) (n : ℕ) → order_from es above n (x ∷ xs) ≡ None → 1 ≤ count_open x.parent es
parent_open x xs es above n h = go (attached x) refl
  where
    go : (b : Bool) → attached x ≡ b → 1 ≤ count_open x.parent es
    go true q = innermost_open x.parent es (attribute_step x xs es above n q h).0
    go false q = closed_open x.parent es (node_step x xs es above n q h).0

-- so nothing on top is gathered for a node that is not open
pub clear_unopened : (xs : List Node) (es : List ℕ) (above : Option ℕ) (n t : ℕ) → order_from es above n xs ≡ None → count_open t es ≡ 0 → Clear t (groups xs)
clear_unopened [] es above n t h z = tt
clear_unopened (x ∷ xs) es above n t h z = go (attached x) refl
  where
    far : eqb x.parent t ≡ false
    far = split (eqb x.parent t) refl
      where
        split : (b : Bool) → eqb x.parent t ≡ b → eqb x.parent t ≡ false
        split false e = e
        split true e = absurd (omega (arith, parent_open x xs es above n h, ap (λ u. count_open u es) (eqb-true x.parent t e)))

    go : (b : Bool) → attached x ≡ b → Clear t (groups (x ∷ xs))
    go true q = rw q far
    go false q = rw q far

-- the rows that are still to come, by what is gathered for the open elements
abbrev pub flat : List ℕ → List Group → List Node
flat [] gs = []
flat (e ∷ es) gs = rows e (children_for e gs) ++ flat es (without e gs)

-- for each of these elements only sound children are gathered, and for nothing else anything
abbrev pub Settled : List ℕ → List Group → Type 0
Settled [] gs = gs ≡ []
Settled (e ∷ es) gs = (attributes_for e gs ≡ []) × Sound (children_for e gs) × Settled es (without e gs)

-- the attributes that an element may still take
abbrev pub MayTake : Option ℕ → List Label → Type 0
MayTake None l = l ≡ []
MayTake (Some a) l = Attributes l × Above a l

-- the table xs is what is gathered from it for the open elements: the innermost may have attributes as well
abbrev pub Told : List ℕ → Option ℕ → List Group → List Node → Type 0
Told [] above gs xs = xs ≡ []
Told (e ∷ es) above gs xs =
    (attribute_rows e (attributes_for e gs) ++ flat (e ∷ es) gs ≡ xs) × MayTake above (attributes_for e gs) × Sound (children_for e gs) × Settled es (without e gs)

flat_none : (es : List ℕ) → flat es [] ≡ []
flat_none [] = refl
flat_none (e ∷ es) = flat_none es

settled_none : (es : List ℕ) → Settled es []
settled_none [] = refl
settled_none (e ∷ es) = (refl, tt, settled_none es)

may_take_none : (above : Option ℕ) → MayTake above []
may_take_none None = refl
may_take_none (Some a) = (tt, tt)

-- where no attribute is gathered for the innermost element either, it is settled like the others
told_settled : (es : List ℕ) (above : Option ℕ) (gs : List Group) (xs : List Node) → flat es gs ≡ xs → Settled es gs → Told es above gs xs
told_settled [] above gs xs t s = sym t
told_settled (e ∷ es) above gs xs t s = (rw s.0 t, rw s.0 (may_take_none above), s.1, s.2)

settled_told : (p : ℕ) (es : List ℕ) (gs : List Group) (xs : List Node) → innermost p es ≡ true → Told es None gs xs → (flat es gs ≡ xs) × Settled es gs
settled_told p [] gs xs h t = absurd (true≢false (sym h))
settled_told p (e ∷ es) gs xs h t = (rw t.1 at t.0, (t.1, t.2, t.3))

-- an attribute comes in
may_take : (above : Option ℕ) (r : Label) (l : List Label) → r.kind ≡ Attribute → Formed r → taken above r.id ≡ true → MayTake (Some r.id) l → MayTake above (r ∷ l)
may_take None r l q w u t = absurd (true≢false (sym u))
may_take (Some a) r l q w u t = ((q, w, t.0), (ltb-true a r.id u, t.1))

attribute_told : (x : Node) (es : List ℕ) (above : Option ℕ) (gs : List Group) (xs : List Node) → x.kind ≡ Attribute → Formed (label x)
    → innermost x.parent es ≡ true → taken above x.id ≡ true
    → Told es (Some x.id) gs xs → Told es above (with_attribute x.parent (label x) gs) (x ∷ xs)
attribute_told x [] above gs xs q w h u t = absurd (true≢false (sym h))
attribute_told x (e ∷ es) above gs xs q w h u t =
    let i = eqb-true e x.parent h in
    let v = rw i at t in
    rw (i, eq-eqb x.parent x.parent refl) (ap (λ z. x ∷ z) v.0, may_take above (label x) (attributes_for x.parent gs) q w u v.1, v.2, v.3)

-- a node that is no attribute comes in below p
node_told : (es : List ℕ) (p : ℕ) (r : Label) (as' : List Label) (k : Forest) (gs : List Group) → innermost p (closed_to p es) ≡ true
    → Formed r → Holds r.kind as' k → Attributes as' × Above 0 as' × ((t : ℕ) → count_names t as' ≤ 1) → Sound k
    → Settled (closed_to p es) gs
    → (flat es (with_tree p r as' k gs) ≡ row p r ∷ (attribute_rows r.id as' ++ (rows r.id k ++ flat (closed_to p es) gs)))
    × Settled es (with_tree p r as' k gs)
node_told [] p r as' k gs h w o a s t = absurd (true≢false (sym h))
node_told (e ∷ es) p r as' k gs h w o a s t = go (eqb e p) refl (node_told es p r as' k gs)
  where
    go : (b : Bool) → eqb e p ≡ b
        → (innermost p (closed_to p es) ≡ true → Formed r → Holds r.kind as' k → Attributes as' × Above 0 as' × ((t : ℕ) → count_names t as' ≤ 1) → Sound k
        → Settled (closed_to p es) gs
        → (flat es (with_tree p r as' k gs) ≡ row p r ∷ (attribute_rows r.id as' ++ (rows r.id k ++ flat (closed_to p es) gs)))
        × Settled es (with_tree p r as' k gs))
        → (flat (e ∷ es) (with_tree p r as' k gs) ≡ row p r ∷ (attribute_rows r.id as' ++ (rows r.id k ++ flat (closed_to p (e ∷ es)) gs)))
        × Settled (e ∷ es) (with_tree p r as' k gs)
    go true q later =
        let i = eqb-true e p q in
        let u = rw (q, i) at t in
        rw (q, i, eq-eqb p p refl) (
          ap (λ z. row p r ∷ z)
              (append_assoc (attribute_rows r.id as') (rows r.id k ++ rows p (children_for p gs)) (flat es (without p gs))
              ∙ ap (λ z. attribute_rows r.id as' ++ z) (append_assoc (rows r.id k) (rows p (children_for p gs)) (flat es (without p gs)))),
          (u.0, (w, o, a, s, u.1), u.2),
        )
    go false q later =
        let z : eqb p e ≡ false = eqb_sym p e ∙ q in
        let y = later (rw q at h) w o a s (rw q at t) in
        rw (z, q) (y.0, (refl, tt, y.1))

-- attributes at the head of a table without a double name
pub count_attribute_names : (e t : ℕ) (l : List Label) → Attributes l → count_key name_key (e, t) (attribute_rows e l) ≡ count_names t l
count_attribute_names e t [] h = refl
count_attribute_names e t (r ∷ l) h = rw (h.0, eq-eqb e e refl, count_attribute_names e t l h.2)

pub names_of_attributes : (e : ℕ) (l : List Label) (rest xs : List Node) → Attributes l → attribute_rows e l ++ rest ≡ xs → ((k : ℕ × ℕ) → count_key name_key k xs ≤ 1)
    → (t : ℕ) → count_names t l ≤ 1
names_of_attributes e l rest xs h q d t =
    omega (arith, d (e, t), ap (count_key name_key (e, t)) q, count_key-++ name_key (e, t) (attribute_rows e l) rest, count_attribute_names e t l h)

-- what is gathered once a node that is no attribute is read
abbrev after : Node → List Group → List Group
after x gs = with_tree x.parent (label x) (attributes_for x.id gs) (children_for x.id gs) (without x.id gs)

-- such a node in order: an element has what was gathered for it, a text has nothing, and an attribute has a parent above 0
node_case : (c : Kind) (x : Node) (xs : List Node) (es : List ℕ) (n : ℕ) → x.kind ≡ c → attached x ≡ false
    → innermost x.parent (closed_to x.parent es) ≡ true → order_from (opened c x.id (closed_to x.parent es)) (takes_above c) n xs ≡ None
    → count_open x.id es ≡ 0 → count_open 0 es ≡ 0 → Formed (label x) → ((k : ℕ × ℕ) → count_key name_key k xs ≤ 1)
    → Told (opened c x.id (closed_to x.parent es)) (takes_above c) (groups xs) xs
    → (flat es (after x (groups xs)) ≡ x ∷ xs) × Settled es (after x (groups xs))
node_case Element x xs es n q a h o new zero w d t =
    let gs = groups xs in
    let as' = attributes_for x.id gs in
    let k = children_for x.id gs in
    let holds : Holds x.kind as' k = rw q tt in
    let rest = rows x.id k ++ flat (closed_to x.parent es) (without x.id gs) in
    let u = node_told es x.parent (label x) as' k (without x.id gs) h w holds
    (t.1.0, t.1.1, names_of_attributes x.id as' rest xs t.1.0 t.0 d) t.2 t.3 in
    (u.0 ∙ ap (λ z. x ∷ z) t.0, u.1)
node_case Text x xs es n q a h o new zero w d t =
    let gs = groups xs in
    let none : count_open x.id (closed_to x.parent es) ≡ 0 = omega (arith, closed_count x.id x.parent es) in
    let clear = clear_unopened xs (closed_to x.parent es) None n x.id o none in
    let holds : Holds x.kind [] nil = rw q (refl, refl) in
    let v = settled_told x.parent (closed_to x.parent es) gs xs h t in
    let u = node_told es x.parent (label x) [] nil gs h w holds (tt, tt, λ t. omega arith) tt v.1 in
    rw (clear_attributes x.id gs clear, clear_children x.id gs clear, clear_without x.id gs clear) (u.0 ∙ ap (λ z. x ∷ z) v.0, u.1)
node_case Attribute x xs es n q a h o new zero w d t =
    let low : x.parent ≤ 0 = ltb-false 0 x.parent (rw q at a) in
    let i : x.parent ≡ 0 = omega arith in
    absurd (omega (arith, closed_open x.parent es h, ap (λ u. count_open u es) i))

attribute_kind : (c : Kind) (b : Bool) → (is_attribute c && b) ≡ true → c ≡ Attribute
attribute_kind Element b h = absurd (true≢false (sym h))
attribute_kind Attribute b h = refl
attribute_kind Text b h = absurd (true≢false (sym h))

-- a table in order, from any open elements on
pub order_told : (xs : List Node) (es : List ℕ) (above : Option ℕ) (n : ℕ) → order_from es above n xs ≡ None
    → ((t : ℕ) → count_open t es + count_rows t xs ≤ 1) → count_open 0 es ≡ 0 → AllFormed xs → ((k : ℕ × ℕ) → count_key name_key k xs ≤ 1)
    → Told es above (groups xs) xs
order_told [] [] above n h d zero w names = refl
order_told [] (e ∷ es) above n h d zero w names = (flat_none es, may_take_none above, tt, settled_none es)
order_told (x ∷ xs) es above n h d zero w names =
    go (attached x) refl
    (λ o. order_told xs es (Some x.id) (n + 1) o (λ t. omega (arith, d t)) zero w.1 (λ k. omega (arith, names k)))
    (λ o. order_told xs (opened x.kind x.id (closed_to x.parent es)) (takes_above x.kind) (n + 1) o
    (λ t. omega (arith, d t, more t)) (omega (arith, more 0, above_uncounted x.id (formed_above (label x) w.0))) w.1 (λ k. omega (arith, names k)))
  where
    more : (t : ℕ) → count_open t (opened x.kind x.id (closed_to x.parent es)) ≤ one (eqb x.id t) + count_open t es
    more t = omega (arith, opened_count t x.kind x.id (closed_to x.parent es), closed_count t x.parent es)

    go : (b : Bool) → attached x ≡ b
        → (order_from es (Some x.id) (n + 1) xs ≡ None → Told es (Some x.id) (groups xs) xs)
        → (order_from (opened x.kind x.id (closed_to x.parent es)) (takes_above x.kind) (n + 1) xs ≡ None
        → Told (opened x.kind x.id (closed_to x.parent es)) (takes_above x.kind) (groups xs) xs)
        → Told es above (groups (x ∷ xs)) (x ∷ xs)
    go true q attribute other =
        let u = attribute_step x xs es above n q h in
        rw q (attribute_told x es above (groups xs) xs (attribute_kind x.kind (ltb 0 x.parent) q) w.0 u.0 u.1 (attribute u.2))
    go false q attribute other =
        let u = node_step x xs es above n q h in
        let new : count_open x.id es ≡ 0 = omega (arith, d x.id, one_refl x.id) in
        let v = node_case x.kind x xs es (n + 1) refl q u.0 u.1 new zero w.0 (λ k. omega (arith, names k)) (other u.1) in
        rw q (told_settled es above (after x (groups xs)) (x ∷ xs) v.0 v.1)
