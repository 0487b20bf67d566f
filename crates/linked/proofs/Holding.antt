-- What a linked store's memory tells of the document that it holds.
use Rattle.std.proofs.Common.{◌≡◌, ℕ, ◌≤◌, Some, None, Option, sym, ap, subst}
use mathlib.Core.Logic.{∥∥₁_elim, ∥∥₁_map}
use native.Mathlib.Nat.{ℕ_set}
use native.Mathlib.Bridge.{le_prop}
use base.Stored.{Coded-set}
use Rattle.std.specs.Option.{option_map, ok_or}
use Rattle.faults.specs.declared.StoreFault.TheVariants.{Absent}
use Rattle.document.specs.Tree.{Forest, size}
use Rattle.store.specs.Kept.{Kept}
use Rattle.store.specs.Meaning.{documents_set, meant, meant_holds, meant_is}
use Rattle.store.specs.Views.{View, view, first_of, asked}
use Rattle.store.proofs.Facts.{kept_prop, options_set}
use Rattle.linked.specs.contracts.row.Row.{the_row}
use Rattle.linked.specs.declared.row.Row.{Row}
use Rattle.linked.specs.declared.table.Table.{Table}
use Rattle.linked.specs.declared.linked_store.LinkedStore.{LinkedStore}
use Rattle.linked.specs.Rows.{row_of}
use Rattle.linked.specs.Tables.{Lookup, shows}
use Rattle.linked.specs.Stores.{Holds, rows_of, one_held}
use Rattle.linked.specs.Document.{document, limit_of}

-- a table that holds a document shows the rows of its nodes; the other way round it needs its root
pub what_shows : (t : Table) (root : ℕ) (d : Forest) → Holds t root d → shows t (size d) (rows_of d)
what_shows t root d h = (h.counted, h.shows)

pub what_holds : (t : Table) (root : ℕ) (d : Forest) → Kept d → root ≡ first_of d → shows t (size d) (rows_of d) → Holds t root d
what_holds t root d k r s = record { kept = k; rooted = r; counted = s.0; shows = s.1 }

pub holds : (s : LinkedStore) → ∥ Holds s.table s.root (document s) ∥₁
holds s = meant_holds (Holds s.table s.root) (one_held s.table s.root) s.stands

-- a document that the memory stands for: there is one, and it is the document
pub stands_for_one : (t : Table) (root : ℕ) (d : Forest) → ∥ Holds t root d ∥₁ → ∥ ((d : Forest) × Holds t root d) ∥₁
stands_for_one t root d s = ∥∥₁_map s (λ h. (d, h))

pub stands_for : (t : Table) (root : ℕ) (one : ∥ ((d : Forest) × Holds t root d) ∥₁) (d : Forest) → ∥ Holds t root d ∥₁ → meant (Holds t root) (one_held t root) one ≡ d
stands_for t root one d s = ∥∥₁_elim s (documents_set _ _) (λ h. meant_is (Holds t root) (one_held t root) one d h)

pub is_kept : (s : LinkedStore) → Kept (document s)
is_kept s = ∥∥₁_elim (holds s) (kept_prop (document s)) (λ h. h.kept)

pub is_counted : (s : LinkedStore) → s.table.used ≡ size (document s)
is_counted s = ∥∥₁_elim (holds s) (ℕ_set _ _) (λ h. h.counted)

pub is_rooted : (s : LinkedStore) → s.root ≡ first_of (document s)
is_rooted s = ∥∥₁_elim (holds s) (ℕ_set _ _) (λ h. h.rooted)

pub fits : (s : LinkedStore) → s.table.used ≤ limit_of s
fits s = subst (λ (n : ℕ). s.table.used ≤ n) (sym s.table.index.ok.0) (∥∥₁_elim (holds s) le_prop (λ h. h.shows.within))

pub looked_up : (s : LinkedStore) (t : ℕ) (o : Option Row) → ((n : ℕ) (look : Lookup) → shows s.table n look → o ≡ look t) → o ≡ option_map row_of (view (document s) t)
looked_up s t o f = ∥∥₁_elim (holds s) (options_set (Coded-set the_row.coded) _ _) (λ h. f (size (document s)) (rows_of (document s)) (what_shows s.table s.root (document s) h))

-- a row that is there, and one that is not
pub asked_row : (r : Option Row) (o : Option View) → r ≡ option_map row_of o → ok_or r Absent ≡ asked row_of o
asked_row r None e = ap (λ (x : Option Row). ok_or x Absent) e
asked_row r (Some v) e = ap (λ (x : Option Row). ok_or x Absent) e
