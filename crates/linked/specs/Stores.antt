-- Which document an index, its rows and a root stand for.
use Rattle.std.specs.Prelude.{◌≡◌, ℕ, List, Some, None, Option, refl, vec_items}
use Rattle.std.proofs.Common.{sym, ap, ◌∙◌}
use Rattle.std.specs.Option.{option_map}
use Rattle.ordered.specs.declared.entries.RowOf.{RowOf}
use Rattle.document.specs.Tree.{Forest, size}
use Rattle.store.specs.Kept.{Kept}
use Rattle.store.specs.Views.{View, view, first_of}
use Rattle.store.proofs.Telling.{views_tell_the_document}
use Rattle.linked.specs.declared.row.Row.{Row}
use Rattle.linked.specs.declared.table.Table.{Table}
use Rattle.linked.specs.Rows.{seen, row_of}
use Rattle.linked.specs.Tables.{Lookup, Shows}

-- the row of each node of a document
abbrev pub rows_of : Forest → Lookup
rows_of d t = option_map row_of (view d t)

pub record Stores (ix : List RowOf) (rows : List Row) (used root : ℕ) (d : Forest) : Type 0 where
  pub kept : Kept d
  pub rooted : root ≡ first_of d
  pub counted : used ≡ size d
  pub shows : Shows ix rows used (rows_of d)

-- an index and its rows show one row for a node
pub one_row : (ix : List RowOf) (rows : List Row) (n : ℕ) (f g : Lookup) → Shows ix rows n f → Shows ix rows n g → (t : ℕ) → f t ≡ g t
one_row ix rows n f g a b t = go (f t) (g t) refl refl
  where
    no_entry : RowOf
    no_entry = record { id = 0; row = 0 }

    same : (w : Row) → f t ≡ Some w → f t ≡ g t
    same w e =
        let k = a.every t w e in
        ap f (sym (k.2 no_entry)) ∙ a.shown k.0 no_entry w k.1 ∙ sym (b.shown k.0 no_entry w k.1) ∙ ap g (k.2 no_entry)

    back : (w : Row) → g t ≡ Some w → f t ≡ g t
    back w e =
        let k = b.every t w e in
        ap f (sym (k.2 no_entry)) ∙ a.shown k.0 no_entry w k.1 ∙ sym (b.shown k.0 no_entry w k.1) ∙ ap g (k.2 no_entry)

    go : (p q : Option Row) → f t ≡ p → g t ≡ q → f t ≡ g t
    go (Some w) q e h = same w e
    go None (Some w) e h = back w h
    go None None e h = e ∙ sym h

seen_again : (o : Option View) → option_map seen (option_map row_of o) ≡ o
seen_again None = refl
seen_again (Some v) = refl

pub one_document : (ix : List RowOf) (rows : List Row) (used root : ℕ) (d e : Forest) → Stores ix rows used root d → Stores ix rows used root e → d ≡ e
one_document ix rows used root d e a b =
    views_tell_the_document d e a.kept b.kept (sym a.rooted ∙ b.rooted)
    (λ t. sym (seen_again (view d t)) ∙ ap (option_map seen) (one_row ix rows used (rows_of d) (rows_of e) a.shows b.shows t) ∙ seen_again (view e t))

-- a table and a root hold a document, and only one
abbrev pub Holds : Table → ℕ → Forest → Type 0
Holds t root d = Stores (vec_items t.index) (vec_items t.rows) t.used root d

abbrev pub one_held : (t : Table) (root : ℕ) (d e : Forest) → Holds t root d → Holds t root e → d ≡ e
one_held t root d e a b = one_document (vec_items t.index) (vec_items t.rows) t.used root d e a b
