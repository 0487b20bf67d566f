-- The open elements: outermost first in the slots, innermost first as a list of identifiers.
use Rattle.std.proofs.Common.{◌≡◌, ℕ, suc, ◌+◌, ◌-◌, ◌<◌, ◌≤◌, Bool, true, false, cond, not, ◌&&◌, eqb, ltb, List, [], ◌∷◌, ◌++◌, length, get_or, take, drop, set, Some, None, Option, sym, refl, ap, ◌∙◌, arith, length-append, length-take}
use Rattle.std.proofs.lemmas.List.{take_more, take_more_set, take-take, take_all, take-append-le, at_drop_more, length-reverse, reverse-reverse}
use Rattle.std.proofs.lemmas.Grind.{reverse_onto}
use Rattle.std.proofs.lemmas.Option.{none-some, same_Some}
use Rattle.std.specs.List.{position_or_len, position}
use mathlib.Core.List.{reverse}
use Rattle.std.proofs.lemmas.Bool.{lt-ltb, le-ltb, ltb-false}
use Rattle.records.specs.declared.nodes.Kind.{Kind}
use Rattle.records.specs.declared.nodes.Kind.TheVariants.{Element, Attribute, Text}
use Rattle.records.specs.declared.nodes.Node.{Node}
use Rattle.document.specs.Table.{closed_to, innermost, opened, takes_above, taken, attached, order_from}
use Rattle.nodetable.specs.declared.scratch.Slot.{Slot}
use Rattle.nodetable.specs.Order.{after_child, after}
use Rattle.nodetable.specs.Scratch.{open_ids}

pub open_ids_push : (ss : List Slot) (s : Slot) → open_ids (ss ++ s ∷ []) ≡ s.id ∷ open_ids ss
open_ids_push [] s = refl
open_ids_push (t ∷ ss) s = rw (open_ids_push ss s)

pub length_open_ids : (ss : List Slot) → length (open_ids ss) ≡ length ss
length_open_ids [] = refl
length_open_ids (s ∷ ss) = omega (arith, length-append (open_ids ss) (s.id ∷ []), length_open_ids ss)

-- the last of the first n slots is the innermost element
pub open_ids_last : (n : ℕ) (ss : List Slot) (d : Slot) → 0 < n → n ≤ length ss → open_ids (take n ss) ≡ (get_or ss (n - 1) d).id ∷ open_ids (take (n - 1) ss)
open_ids_last n ss d p h =
    let e : n - 1 + 1 ≡ n = omega arith in
    let f = take_more ss (n - 1) d (omega arith) in
    let g : take n ss ≡ take (n - 1) ss ++ get_or ss (n - 1) d ∷ [] = rw e at f in
    rw g (open_ids_push (take (n - 1) ss) (get_or ss (n - 1) d))

-- the innermost element closes where it is not the parent, and stays open with those around it where it is
pub closed_past : (p : ℕ) (ss around : List Slot) (s : Slot) → ss ≡ around ++ s ∷ [] → eqb s.id p ≡ false → closed_to p (open_ids around) ≡ closed_to p (open_ids ss)
closed_past p ss around s e ne = rw (e, open_ids_push around s, ne)

pub closed_here : (p : ℕ) (ss around : List Slot) (s : Slot) → ss ≡ around ++ s ∷ [] → eqb s.id p ≡ true → closed_to p (open_ids ss) ≡ open_ids ss
closed_here p ss around s e h = rw (e, open_ids_push around s, h)

abbrev pub is_slot_of : ℕ → Slot → Bool
is_slot_of p s = eqb s.id p

-- how many elements are passed over up to p, innermost first
abbrev passed : ℕ → List Slot → ℕ
passed p ys = position_or_len (is_slot_of p) ys

passed_within : (p : ℕ) (ys : List Slot) → passed p ys ≤ length ys
passed_within p [] = omega arith
passed_within p (y ∷ ys) = go (eqb y.id p) (passed_within p ys)
  where
    go : (b : Bool) → passed p ys ≤ length ys → cond (not b) (1 + passed p ys) 0 ≤ suc (length ys)
    go true h = omega arith
    go false h = omega arith

left_open : (p : ℕ) (ys : List Slot) → open_ids (take (length ys - passed p ys) (reverse ys)) ≡ closed_to p (open_ids (reverse ys))
left_open p [] = refl
left_open p (y ∷ ys) = go (eqb y.id p) refl (left_open p ys)
  where
    all : List Slot
    all = reverse (y ∷ ys)

    parted : all ≡ reverse ys ++ y ∷ []
    parted = reverse_onto ys y []

    go : (b : Bool) → eqb y.id p ≡ b → open_ids (take (length ys - passed p ys) (reverse ys)) ≡ closed_to p (open_ids (reverse ys))
        → open_ids (take (suc (length ys) - cond (not b) (1 + passed p ys) 0) all) ≡ closed_to p (open_ids all)
    go true e h =
        let n : suc (length ys) - 0 ≡ suc (length ys) = omega arith in
        ap (λ m. open_ids (take m all)) n
        ∙ ap open_ids (take_all (suc (length ys)) all (omega (arith, length-reverse (y ∷ ys))))
        ∙ sym (closed_here p all (reverse ys) y parted e)
    go false e h =
        let n : suc (length ys) - (1 + passed p ys) ≡ length ys - passed p ys = omega arith in
        ap (λ m. open_ids (take m all)) n
        ∙ ap (λ (k : List Slot). open_ids (take (length ys - passed p ys) k)) parted
        ∙ ap open_ids (take-append-le (length ys - passed p ys) (reverse ys) (y ∷ []) (omega (arith, length-reverse ys)))
        ∙ h
        ∙ closed_past p all (reverse ys) y parted e

stays_open : (p : ℕ) (ss : List Slot) → open_ids (take (length ss - passed p (reverse ss)) ss) ≡ closed_to p (open_ids ss)
stays_open p ss = let e = left_open p (reverse ss) in rw (reverse-reverse ss, length-reverse ss) at e

-- what a search from the innermost element on answers
pub open_from_found : (p : ℕ) (ss : List Slot) (k : ℕ) → Some k ≡ position (is_slot_of p) (reverse ss) → open_ids (take (length ss - k) ss) ≡ closed_to p (open_ids ss)
open_from_found p ss k = go (ltb (passed p (reverse ss)) (length (reverse ss)))
  where
    go : (b : Bool) → Some k ≡ cond b (Some (passed p (reverse ss))) None → open_ids (take (length ss - k) ss) ≡ closed_to p (open_ids ss)
    go false e = absurd (none-some _ (sym e))
    go true e = ap (λ n. open_ids (take (length ss - n) ss)) (same_Some _ _ e) ∙ stays_open p ss

pub none_open : (p : ℕ) (ss : List Slot) → None ≡ position (is_slot_of p) (reverse ss) → [] ≡ closed_to p (open_ids ss)
none_open p ss = go (ltb (passed p (reverse ss)) (length (reverse ss))) refl
  where
    go : (b : Bool) → ltb (passed p (reverse ss)) (length (reverse ss)) ≡ b → None ≡ cond b (Some (passed p (reverse ss))) None → [] ≡ closed_to p (open_ids ss)
    go true e h = absurd (none-some _ h)
    go false e h =
        let z : 0 ≡ length ss - passed p (reverse ss) = omega (arith, length-reverse ss, ltb-false _ _ e) in
        ap (λ n. open_ids (take n ss)) z ∙ stays_open p ss

pub innermost_last : (p : ℕ) (ss : List Slot) (s : Slot) → 0 < length ss → s ≡ get_or ss (length ss - 1) s → innermost p (open_ids ss) ≡ eqb s.id p
innermost_last p ss s h at =
    let e = open_ids_last (length ss) ss s h (omega arith) in
    let f : open_ids ss ≡ s.id ∷ open_ids (take (length ss - 1) ss) = rw (take_all (length ss) ss (omega arith), ← at) at e in
    rw f

-- a list that is closed to p is empty, or has p innermost
pub innermost_closed : (p : ℕ) (es : List ℕ) → 0 < length (closed_to p es) → innermost p (closed_to p es) ≡ true
innermost_closed p [] h = absurd (omega arith)
innermost_closed p (e ∷ es) h = go (eqb e p) refl h (innermost_closed p es)
  where
    go : (b : Bool) → eqb e p ≡ b → 0 < length (cond b (e ∷ es) (closed_to p es))
        → (0 < length (closed_to p es) → innermost p (closed_to p es) ≡ true) → innermost p (cond b (e ∷ es) (closed_to p es)) ≡ true
    go true f k later = f
    go false f k later = later k

-- the first n slots hold the open elements: how many they are, and what closing and opening leave
pub count_is : (n : ℕ) (ss : List Slot) → n ≤ length ss → n ≡ length (open_ids (take n ss))
count_is n ss h = omega (arith, length_open_ids (take n ss), length-take n ss)

pub closes : (n r p : ℕ) (ss : List Slot) → r ≤ length (take n ss) → open_ids (take r (take n ss)) ≡ closed_to p (open_ids (take n ss))
    → open_ids (take r ss) ≡ closed_to p (open_ids (take n ss))
closes n r p ss h e = ap open_ids (sym (take-take r n ss (omega (arith, length-take n ss)))) ∙ e

pub opens : (n : ℕ) (ss : List Slot) (s : Slot) → n < length ss
    → open_ids (take (n + 1) (set ss n s)) ≡ cond (ltb (length (open_ids (take n ss))) (length ss)) (s.id ∷ open_ids (take n ss)) (open_ids (take n ss))
opens n ss s h =
    let some : ltb (length (open_ids (take n ss))) (length ss) ≡ true = lt-ltb _ _ (omega (arith, count_is n ss (omega arith))) in
    rw (some, take_more_set ss n s h) (open_ids_push (take n ss) s)

pub opens_none : (n id : ℕ) (ss : List Slot) → n ≤ length ss → length ss ≤ n
    → open_ids (take n ss) ≡ cond (ltb (length (open_ids (take n ss))) (length ss)) (id ∷ open_ids (take n ss)) (open_ids (take n ss))
opens_none n id ss h k =
    let none : ltb (length (open_ids (take n ss))) (length ss) ≡ false = le-ltb _ _ (omega (arith, count_is n ss h)) in
    rw none

pub length_closed : (p : ℕ) (es : List ℕ) → length (closed_to p es) ≤ length es
length_closed p [] = omega arith
length_closed p (e ∷ es) = go (eqb e p) (length_closed p es)
  where
    go : (b : Bool) → length (closed_to p es) ≤ length es → length (cond b (e ∷ es) (closed_to p es)) ≤ suc (length es)
    go true l = omega arith
    go false l = omega arith

-- a node below p opens what it opens, where not all slots are used by those around it
pub opened_below : (k : Kind) (id p room : ℕ) (es : List ℕ) → length es < room
    → cond (ltb (length (closed_to p es)) room) (opened k id (closed_to p es)) (closed_to p es) ≡ opened k id (closed_to p es)
opened_below k id p room es h =
    let some : ltb (length (closed_to p es)) room ≡ true = lt-ltb _ _ (omega (arith, length_closed p es, h)) in
    rw some

pub length_opened : (k : Kind) (id p : ℕ) (es : List ℕ) → length (opened k id (closed_to p es)) ≤ length es + 1
length_opened Element id p es = omega (arith, length_closed p es)
length_opened Attribute id p es = omega (arith, length_closed p es)
length_opened Text id p es = omega (arith, length_closed p es)

pub takes_none : (k : Kind) → (k ≡ Element → ⊥) → takes_above k ≡ None
takes_none Element ne = absurd (ne refl)
takes_none Attribute ne = refl
takes_none Text ne = refl

-- a node that comes where some elements stay open
pub child_passes : (es : List ℕ) (x : Node) → 0 < length (closed_to x.parent es) → after_child es x ≡ Some (opened x.kind x.id (closed_to x.parent es), takes_above x.kind)
child_passes es x some = rw (innermost_closed x.parent es some)

-- what the scan answers, by what is open behind the next node
abbrev pub onward : ℕ → List Node → Option (List ℕ × Option ℕ) → Option ℕ
onward n xs None = Some n
onward n xs (Some s) = order_from s.0 s.1 (n + 1) xs

order_more : (ids : List ℕ) (limit : Option ℕ) (n : ℕ) (x : Node) (xs : List Node) → order_from ids limit n (x ∷ xs) ≡ onward n xs (after ids limit x)
order_more ids limit n x xs =
    go (attached x) (innermost x.parent ids && taken limit x.id) (innermost x.parent (closed_to x.parent ids)) (ids, Some x.id)
    (opened x.kind x.id (closed_to x.parent ids), takes_above x.kind)
  where
    go : (a b c : Bool) (s t : List ℕ × Option ℕ)
        → cond a (cond b (order_from s.0 s.1 (n + 1) xs) (Some n)) (cond c (order_from t.0 t.1 (n + 1) xs) (Some n))
        ≡ onward n xs (cond a (cond b (Some s) None) (cond c (Some t) None))
    go true true c s t = refl
    go true false c s t = refl
    go false b true s t = refl
    go false b false s t = refl

pub order_on : (ids : List ℕ) (limit : Option ℕ) (xs : List Node) (i n : ℕ) (d : Node) (s : Option (List ℕ × Option ℕ)) → i < length xs
    → s ≡ after ids limit (get_or xs i d) → order_from ids limit n (drop i xs) ≡ onward n (drop (i + 1) xs) s
order_on ids limit xs i n d s h e =
    at_drop_more (order_from ids limit n) xs i d h ∙ order_more ids limit n (get_or xs i d) (drop (i + 1) xs) ∙ ap (onward n (drop (i + 1) xs)) (sym e)
