-- Another name or value for the node in one row, and the tests before it.
use Rattle.std.proofs.Common.{◌≡◌, ℕ, ◌<◌, ◌≤◌, Bool, true, false, cond, eqb, List, length, set, Ok, Err, sym, refl, ap, ◌∙◌, subst}
use Rattle.std.proofs.lemmas.Bool.{eq-eqb, ne_eqb}
use Rattle.records.specs.declared.nodes.Node.{Node}
use Rattle.faults.specs.declared.StoreFault.{StoreFault}
use Rattle.faults.specs.declared.StoreFault.TheVariants.{Misformed, Unsuited}
use Rattle.ordered.specs.declared.entries.RowOf.{RowOf}
use Rattle.store.specs.Says.{Answer, after, is_element, is_text, rename_of, rename_says, rename_leaves, set_value_of, set_value_says, set_value_leaves}
use Rattle.store.specs.Listed.{renamed_row, revalued_row}
use Rattle.store.proofs.Edits.{rename_changes_one, set_value_changes_one, rename_keeps, set_value_keeps}
use Rattle.flat.specs.declared.rows.FlatRow.{FlatRow}
use Rattle.flat.specs.Means.{at, means, Stored}
use Rattle.flat.specs.declared.flat_store.FlatStore.{FlatStore}
use Rattle.flat.specs.Document.{document}
use Rattle.flat.specs.Judging.{Judged}
use Rattle.flat.proofs.Standing.{node_at, sight}
use Rattle.flat.proofs.Keeping.{Edits, edited_row, edited_stored, edited_means}

-- a refusal leaves the document
pub refused : (me : FlatStore) (t : ℕ) (says : Answer) (e : StoreFault) → Err e ≡ says → Judged me t says (Err e)
refused me t says e h = (h, λ new. ap (λ (a : Answer). after a new (document me)) h)

-- the row with another name or value
abbrev pub with_name : ℕ → FlatRow → FlatRow
with_name m r =
    record r { node = record r.node { name = m } }

abbrev pub with_value : ℕ → FlatRow → FlatRow
with_value v r =
    record r { node = record r.node { value = v } }

pick : {Y : Type 0} (b : Bool) (x y : Y) (P : Y → Type 0) → P x → P y → P (cond b x y)
pick true x y P p q = p
pick false x y P p q = q

renames : (t m : ℕ) → Edits t (renamed_row t m)
renames t m =
    record {
      others = λ x ne. rw (ne_eqb x.id t ne);
      id = λ x. pick (eqb x.id t) _ x (λ (y : Node). y.id ≡ x.id) refl refl;
      parent = λ x. pick (eqb x.id t) _ x (λ (y : Node). y.parent ≡ x.parent) refl refl;
      kind = λ x. pick (eqb x.id t) _ x (λ (y : Node). y.kind ≡ x.kind) refl refl;
    }

revalues : (t v : ℕ) → Edits t (revalued_row t v)
revalues t v =
    record {
      others = λ x ne. rw (ne_eqb x.id t ne);
      id = λ x. pick (eqb x.id t) _ x (λ (y : Node). y.id ≡ x.id) refl refl;
      parent = λ x. pick (eqb x.id t) _ x (λ (y : Node). y.parent ≡ x.parent) refl refl;
      kind = λ x. pick (eqb x.id t) _ x (λ (y : Node). y.kind ≡ x.kind) refl refl;
    }

renamed_is : (r : FlatRow) (m : ℕ) → edited_row (renamed_row r.node.id m) r ≡ with_name m r
renamed_is r m = rw (eq-eqb r.node.id r.node.id refl)

revalued_is : (r : FlatRow) (v : ℕ) → edited_row (revalued_row r.node.id v) r ≡ with_value v r
revalued_is r v = rw (eq-eqb r.node.id r.node.id refl)

module _ (R : List FlatRow) (X : List RowOf) (n : ℕ) (h : n ≤ length R) (s : Stored R X n) (i : ℕ) (l : i < n) where
  -- ---- the tests

  pub rename_judged : (t m : ℕ) → (at R i).node.id ≡ t → rename_says (means R n) t m ≡ cond (is_text (at R i).node.kind) (Err Unsuited) (cond (eqb m 0) (Err Misformed) (Ok tt))
  rename_judged t m e =
      let S = sight R X n h s t i l e in
      ap (rename_of m) S.seen ∙ ap (λ (x : Node). cond (is_text x.kind) (Err Unsuited) (cond (eqb m 0) (Err Misformed) (Ok tt))) (S.row ∙ node_at R n i h l)

  pub set_value_judged : (t : ℕ) → (at R i).node.id ≡ t → set_value_says (means R n) t ≡ cond (is_element (at R i).node.kind) (Err Unsuited) (Ok tt)
  set_value_judged t e =
      let S = sight R X n h s t i l e in
      ap set_value_of S.seen ∙ ap (λ (x : Node). cond (is_element x.kind) (Err Unsuited) (Ok tt)) (S.row ∙ node_at R n i h l)

  -- ---- the writes

  module _ (m : ℕ) (x : FlatRow) (e : x ≡ at R i) (says : Ok tt ≡ rename_says (means R n) (at R i).node.id m) where
    renamed_set : set R i (edited_row (renamed_row (at R i).node.id m) (at R i)) ≡ set R i (with_name m x)
    renamed_set = ap (set R i) (renamed_is (at R i) m ∙ ap (with_name m) (sym e))

    pub rename_stored : Stored (set R i (with_name m x)) X n
    rename_stored =
        subst (λ (l : List FlatRow). Stored l X n) renamed_set
        (edited_stored R X n h s i l (renamed_row (at R i).node.id m) (renames (at R i).node.id m) (rename_leaves (means R n) (at R i).node.id m)
        (rename_keeps (means R n) (at R i).node.id m s.kept).0 (rename_changes_one (means R n) (at R i).node.id m (sym says)))

    pub rename_means : means (set R i (with_name m x)) n ≡ rename_leaves (means R n) (at R i).node.id m
    rename_means =
        ap (λ (l : List FlatRow). means l n) (sym renamed_set)
        ∙ edited_means R X n h s i l (renamed_row (at R i).node.id m) (renames (at R i).node.id m) (rename_leaves (means R n) (at R i).node.id m)
        (rename_keeps (means R n) (at R i).node.id m s.kept).0 (rename_changes_one (means R n) (at R i).node.id m (sym says))

  module _ (v : ℕ) (x : FlatRow) (e : x ≡ at R i) (says : Ok tt ≡ set_value_says (means R n) (at R i).node.id) where
    revalued_set : set R i (edited_row (revalued_row (at R i).node.id v) (at R i)) ≡ set R i (with_value v x)
    revalued_set = ap (set R i) (revalued_is (at R i) v ∙ ap (with_value v) (sym e))

    pub set_value_stored : Stored (set R i (with_value v x)) X n
    set_value_stored =
        subst (λ (l : List FlatRow). Stored l X n) revalued_set
        (edited_stored R X n h s i l (revalued_row (at R i).node.id v) (revalues (at R i).node.id v) (set_value_leaves (means R n) (at R i).node.id v)
        (set_value_keeps (means R n) (at R i).node.id v s.kept).0 (set_value_changes_one (means R n) (at R i).node.id v (sym says)))

    pub set_value_means : means (set R i (with_value v x)) n ≡ set_value_leaves (means R n) (at R i).node.id v
    set_value_means =
        ap (λ (l : List FlatRow). means l n) (sym revalued_set)
        ∙ edited_means R X n h s i l (revalued_row (at R i).node.id v) (revalues (at R i).node.id v) (set_value_leaves (means R n) (at R i).node.id v)
        (set_value_keeps (means R n) (at R i).node.id v s.kept).0 (set_value_changes_one (means R n) (at R i).node.id v (sym says))
