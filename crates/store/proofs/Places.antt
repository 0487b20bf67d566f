-- One record more in a list.
use Rattle.std.proofs.Common.{◌≡◌, ℕ, suc, ◌+◌, ◌<◌, ◌≤◌, Bool, true, false, cond, eqb, List, [], ◌∷◌, ◌++◌, length, take, drop, refl, ap, ◌∙◌, append_assoc, add-one, arith, length-append}
use Rattle.records.specs.declared.nodes.Node.{Node}
use Rattle.document.specs.Tree.{Label, Forest, one, count_labels, count}
use Rattle.document.specs.Listing.{attribute_rows, rows}
use Rattle.document.proofs.Counting.{count_rows, count_attribute_rows, count_of_rows}
use Rattle.store.specs.Listed.{inserted_at, removed_at, position, times}

-- ys is xs with x at place i
pub record OneMore (xs ys : List Node) (i : ℕ) (x : Node) : Type 0 where
  pub front : List Node
  pub back : List Node
  pub was : xs ≡ front ++ back
  pub is : ys ≡ front ++ (x ∷ back)
  pub long : length front ≡ i

pub more_here : (xs : List Node) (x : Node) → OneMore xs (x ∷ xs) 0 x
more_here xs x = record { front = []; back = xs; was = refl; is = refl; long = refl }

pub more_behind : (zs xs ys : List Node) (i : ℕ) (x : Node) → OneMore xs ys i x → OneMore (zs ++ xs) (zs ++ ys) (length zs + i) x
more_behind zs xs ys i x m =
    record {
      front = zs ++ m.front;
      back = m.back;
      was = rw append_assoc (ap (λ (l : List Node). zs ++ l) m.was);
      is = rw append_assoc (ap (λ (l : List Node). zs ++ l) m.is);
      long = omega (arith, length-append zs m.front, m.long);
    }

pub more_before : (zs xs ys : List Node) (i : ℕ) (x : Node) → OneMore xs ys i x → OneMore (xs ++ zs) (ys ++ zs) i x
more_before zs xs ys i x m =
    record {
      front = m.front;
      back = m.back ++ zs;
      was = ap (λ (l : List Node). l ++ zs) m.was ∙ append_assoc m.front m.back zs;
      is = ap (λ (l : List Node). l ++ zs) m.is ∙ append_assoc m.front (x ∷ m.back) zs;
      long = m.long;
    }

pub more_at : (xs ys : List Node) (i j : ℕ) (x : Node) → i ≡ j → OneMore xs ys i x → OneMore xs ys j x
more_at xs ys i j x e m = record { front = m.front; back = m.back; was = m.was; is = m.is; long = m.long ∙ e }

pub take_front : (xs ys : List Node) → take (length xs) (xs ++ ys) ≡ xs
take_front [] ys = refl
take_front (x ∷ xs) ys = ap (λ (l : List Node). x ∷ l) (take_front xs ys)

drop_front : (xs ys : List Node) → drop (length xs) (xs ++ ys) ≡ ys
drop_front [] ys = refl
drop_front (x ∷ xs) ys = drop_front xs ys

pub more_inserted : (xs ys : List Node) (i : ℕ) (x : Node) → OneMore xs ys i x → (ys ≡ inserted_at i x xs) × (i ≤ length xs)
more_inserted xs ys i x m = (
  rw (m.is, m.was, ← m.long, take_front m.front m.back, drop_front m.front m.back),
  omega (arith, m.long, ap length m.was, length-append m.front m.back),
)

drop_past : (xs ys : List Node) (x : Node) → drop (suc (length xs)) (xs ++ (x ∷ ys)) ≡ ys
drop_past [] ys x = refl
drop_past (z ∷ xs) ys x = drop_past xs ys x

pub drop_one_more : (xs ys : List Node) (x : Node) → drop (length xs + 1) (xs ++ (x ∷ ys)) ≡ ys
drop_one_more xs ys x = rw add-one (drop_past xs ys x)

pub more_removed : (xs ys : List Node) (i : ℕ) (x : Node) → OneMore xs ys i x → (xs ≡ removed_at i ys) × (i < length ys)
more_removed xs ys i x m = (
  rw (m.is, m.was, ← m.long, take_front m.front (x ∷ m.back), drop_one_more m.front m.back x),
  omega (arith, m.long, ap length m.is, length-append m.front (x ∷ m.back)),
)

-- how often an identifier stands in the rows of trees
times_count : (t : ℕ) (xs : List Node) → times t xs ≡ count_rows t xs
times_count t [] = refl
times_count t (x ∷ xs) = omega (arith, times_count t xs)

pub times_labels : (t p : ℕ) (as' : List Label) → times t (attribute_rows p as') ≡ count_labels t as'
times_labels t p as' = times_count t (attribute_rows p as') ∙ count_attribute_rows t p as'

pub times_rows : (t p : ℕ) (d : Forest) → times t (rows p d) ≡ count t d
times_rows t p d = times_count t (rows p d) ∙ count_of_rows t p d

-- identifiers and rows of the longer list
times-++ : (t : ℕ) (xs ys : List Node) → times t (xs ++ ys) ≡ times t xs + times t ys
times-++ t [] ys = omega arith
times-++ t (x ∷ xs) ys = omega (arith, times-++ t xs ys)

pub more_times : (t : ℕ) (xs ys : List Node) (i : ℕ) (x : Node) → OneMore xs ys i x → times t ys ≡ times t xs + one (eqb x.id t)
more_times t xs ys i x m = rw (m.is, m.was) (omega (arith, times-++ t m.front m.back, times-++ t m.front (x ∷ m.back)))

pub more_length : (xs ys : List Node) (i : ℕ) (x : Node) → OneMore xs ys i x → length ys ≡ length xs + 1
more_length xs ys i x m = rw (m.is, m.was) (omega (arith, length-append m.front m.back, length-append m.front (x ∷ m.back)))

-- where an identifier stands in two lists one behind the other
pub position_past : (t : ℕ) (xs ys : List Node) → times t xs ≡ 0 → position t (xs ++ ys) ≡ length xs + position t ys
position_past t [] ys z = omega arith
position_past t (x ∷ xs) ys z = go (eqb x.id t) z (position_past t xs ys)
  where
    go : (b : Bool) → one b + times t xs ≡ 0 → (times t xs ≡ 0 → position t (xs ++ ys) ≡ length xs + position t ys)
        → cond b 0 (1 + position t (xs ++ ys)) ≡ length (x ∷ xs) + position t ys
    go true z h = absurd (omega arith)
    go false z h = omega (arith, h (omega arith))

pub position_within : (t : ℕ) (xs ys : List Node) → 1 ≤ times t xs → position t (xs ++ ys) ≡ position t xs
position_within t [] ys z = absurd (omega arith)
position_within t (x ∷ xs) ys z = go (eqb x.id t) z (position_within t xs ys)
  where
    go : (b : Bool) → 1 ≤ one b + times t xs → (1 ≤ times t xs → position t (xs ++ ys) ≡ position t xs)
        → cond b 0 (1 + position t (xs ++ ys)) ≡ cond b 0 (1 + position t xs)
    go true z h = refl
    go false z h = omega (arith, h (omega arith))
