-- The operations and nodes of one target and code, in the tables of a change list.
use Rattle.std.specs.Prelude.{◌≡◌, ℕ, ◌+◌, ◌<◌, ◌≤◌, Bool, true, false, cond, ◌&&◌, List, [], ◌∷◌, length, get_or, take, drop, Some, None, Option, ◌==◌, ◌≢◌, slice_index_or}
use Rattle.std.specs.declared.cmp.Ordering.{Ordering}
use Rattle.std.specs.Ordering.{ordering_then, nat_cmp}
use Rattle.records.specs.Formed.{code_number}
use Rattle.records.specs.declared.nodes.Node.{Node}
use Rattle.records.specs.declared.operations.Code.{Code}
use Rattle.records.specs.declared.operations.Code.TheVariants.{InsertBefore, InsertLast}
use Rattle.records.specs.declared.operations.Operation.{Operation}
use Rattle.document.specs.Tree.{Forest, nil}
use Rattle.document.specs.Listing.{rows}
use Rattle.changes.specs.Changes.{Change, ◌⊕◌}
use Rattle.changes.specs.Tables.{trees_of}
use Rattle.ordered.specs.Table.{Ascending, Placed}
use Rattle.reduce.specs.declared.keys.Key.{Key}
use Rattle.reduce.specs.declared.keys.Entry.{Entry}
use Rattle.reduce.specs.Mirror.{group}

abbrev pub is_for : ℕ → Code → Operation → Bool
is_for t c o = o.target == t && code_number o.code == code_number c

-- the first operation of a code on a target
abbrev pub first_operation : ℕ → Code → List Operation → Option Operation
first_operation t c [] = None
first_operation t c (o ∷ l) = cond (is_for t c o) (Some o) (first_operation t c l)

-- each operation's nodes are a row of trees
abbrev pub Stretches : List Operation → List Node → Type 0
Stretches [] xs = Unit {0}
Stretches (o ∷ l) xs = (o.count ≤ length xs) × (rows 0 (trees_of (take o.count xs)) ≡ take o.count xs) × Stretches l (drop o.count xs)

-- how many nodes the operations count
abbrev pub total : List Operation → ℕ
total [] = 0
total (o ∷ l) = o.count + total l

-- the entry of the operation at a place
abbrev pub blank : Operation
blank = record { target = 0; code = InsertBefore; count = 0; name = 0; value = 0 }

abbrev pub entry_of : List Operation → ℕ → Entry
entry_of ops i = record { target = (get_or ops i blank).target; code = code_number (get_or ops i blank).code; position = i; start = total (take i ops) }

abbrev pub by_entry : Entry → Entry → Ordering
by_entry a b = ordering_then (nat_cmp a.target b.target) (ordering_then (nat_cmp a.code b.code) (ordering_then (nat_cmp a.position b.position) (nat_cmp a.start b.start)))

-- the first n entries ascend, and are those of the first n operations, each once
pub record IndexedTo (n : ℕ) (ops : List Operation) (es : List Entry) : Type 0 where
  pub ascends : Ascending by_entry n es
  pub each : (k : ℕ) (d : Entry) → k < n → ((get_or es k d).position < n) × (slice_index_or es k d ≡ entry_of ops (get_or es k d).position)
  pub all : (i : ℕ) → i < n → (k : ℕ) × (k < n) × ((d : Entry) → (get_or es k d).position ≡ i)
  pub once : (j k : ℕ) (d : Entry) → j < k → k < n → (get_or es j d).position ≢ (get_or es k d).position

-- an entry was put in where it belongs
abbrev pub PutIn : ℕ → Entry → List Entry → List Entry → Type 0
PutIn n e xs ys = (at : ℕ) × Placed xs at n e ys × (Ascending by_entry n xs → Ascending by_entry (n + 1) ys)

-- a list that is ready to be looked up in
pub record Ready (ops : List Operation) (xs : List Node) (es : List Entry) : Type 0 where
  pub stretches : Stretches ops xs
  pub long : length es ≡ length ops
  pub indexed : IndexedTo (length ops) ops es

abbrev pub entry_for : ℕ → Code → Entry → Bool
entry_for t c e = e.target == t && e.code == code_number c

-- from the place p on stand the entries of a key; at p stands its first, if it has one
pub record Begins (t : ℕ) (c : Code) (ops : List Operation) (es : List Entry) (p : ℕ) : Type 0 where
  pub within : p ≤ length es
  pub none_before : (k : ℕ) (d : Entry) → k < p → entry_for t c (slice_index_or es k d) ≡ false
  pub together : (j k : ℕ) (d : Entry) → p ≤ j → j ≤ k → k < length es → entry_for t c (slice_index_or es k d) ≡ true
      → (entry_for t c (slice_index_or es j d) ≡ true) × ((get_or es j d).position ≤ (get_or es k d).position)

abbrev pub key : ℕ → Code → Key
key t c = record { target = t; code = c }

-- the nodes of several groups, one behind the other
abbrev pub gathered : List Change → List Key → Forest
gathered l [] = nil
gathered l (k ∷ ks) = group l k.target k.code ⊕ gathered l ks

-- the group that is inserted before a row below p that begins with h
abbrev pub gap_key : ℕ → ℕ → Key
gap_key h p = cond (h == 0) (key p InsertLast) (key h InsertBefore)
