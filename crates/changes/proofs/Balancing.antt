-- The changed document and what the inverse list brings weigh as much as the document and what the reduced list brings.
use Rattle.std.proofs.Common.{◌≡◌, ℕ, ◌+◌, Bool, true, false, cond, ◌||◌, List, [], ◌∷◌, Some, None, Option, refl, ap, arith}
use Rattle.records.specs.declared.nodes.Kind.{Kind}
use Rattle.records.specs.declared.nodes.Kind.TheVariants.{Attribute, Element, Text}
use Rattle.document.specs.Tree.{Forest, nil, node}
use Rattle.changes.specs.Changes.{root_labels, or_else, is_some}
use Rattle.changes.specs.Marks.{NodeChanges, MarkedLabel, replacing_labels, removed, MarkedForest, unmark, no_marks, marked}
use Rattle.changes.specs.Reduced.{without_overridden, left_on_node, cleared_labels, cleared, left_on_labels, left_on_removed, left_on_kept}
use Rattle.changes.specs.Inverse.{inverse_marks, removed_run}
use Rattle.changes.proofs.Reducing.{kept_not_replaced}
use Rattle.changes.proofs.Inverting.{Gathered, unmark-⊞, unmark_taken_out, unmark_insert_all_marked, unmark_labels_taken_out, unmark_labels_undone}
use Rattle.changes.proofs.Weighing.{weigh, weigh_labels, brought_on_node, brought, brought_by_labels, weigh_labels-++, brought-⊞, taken_out_brings, weigh-⊕, cleared_labels_bring, cleared_bring, labels_taken_out_bring, labels_undone_bring, weigh_childless, weigh_insert_labels, kept_and_removed}
use Rattle.changes.proofs.Fitting.{AttributeRow, Among, Given, Fit, Fitting, FitLabels}

row_weighs : (w : ℕ → ℕ) (f : Forest) → AttributeRow f → weigh_labels w (root_labels f) ≡ weigh w f
row_weighs w nil h = refl
row_weighs w (node r as' k f) h = rw (h.2, h.3, row_weighs w f h.4) (omega arith)

among_weighs : (w : ℕ → ℕ) (κ : Kind) (f : Forest) → Among κ f → weigh_labels w (root_labels f) ≡ weigh w f
among_weighs w Element f h = row_weighs w f h
among_weighs w Attribute f h = rw h
among_weighs w Text f h = rw h

given_weighs : (w : ℕ → ℕ) (o : Option Forest) → Given AttributeRow o → weigh_labels w (root_labels (or_else o nil)) ≡ weigh w (or_else o nil)
given_weighs w None h = refl
given_weighs w (Some f) h = row_weighs w f h

-- an attribute's changes bring what replaces it
label_brings : (w : ℕ → ℕ) (a : NodeChanges) → Fitting Attribute a → brought_on_node w a ≡ weigh_labels w (root_labels (or_else a.replaced nil))
label_brings w a h =
    rw (h.before, h.after, h.first, h.into, h.last, h.attributes, h.content) (omega (arith, given_weighs w a.replaced h.replaced))

replacing_weighs : (w : ℕ → ℕ) (l : List MarkedLabel) → FitLabels l → weigh_labels w (replacing_labels l) ≡ brought_by_labels w l
replacing_weighs w [] h = refl
replacing_weighs w (m ∷ l) h =
    omega (arith, weigh_labels-++ w (root_labels (or_else m.changes.replaced nil)) (replacing_labels l), label_brings w m.changes h.0, replacing_weighs w l h.1)

kept_brings_nothing : (w : ℕ → ℕ) (a : NodeChanges) → removed a ≡ false → weigh w (or_else a.replaced nil) ≡ 0
kept_brings_nothing w a e = rw (kept_not_replaced a.replaced a.deleted e)

module _ (w : ℕ → ℕ) where
  pub inverse_balances : (m : MarkedForest) → without_overridden m ≡ m → Gathered m → Fit m
      → weigh w (unmark (inverse_marks m)) + (brought w (inverse_marks m) + weigh w (removed_run m)) ≡ weigh w (unmark m) + brought w m
  inverse_balances no_marks s g h = refl
  inverse_balances (marked r a as' k f) s g h =
      go (removed a) a.content refl refl (λ q. inverse_balances k q g.1 h.2) (inverse_balances f behind g.2 h.3)
    where
      behind : without_overridden f ≡ f
      behind = cc

      own : left_on_node a ≡ a
      own = cc

      labels : cond (removed a) (cleared_labels as') (left_on_labels as') ≡ as'
      labels = cc

      below : cond (removed a || is_some a.content) (cleared k) (without_overridden k) ≡ k
      below = cc

      go : (b : Bool) (o : Option Forest) → removed a ≡ b → a.content ≡ o
          → (without_overridden k ≡ k → weigh w (unmark (inverse_marks k)) + (brought w (inverse_marks k) + weigh w (removed_run k)) ≡ weigh w (unmark k) + brought w k)
          → weigh w (unmark (inverse_marks f)) + (brought w (inverse_marks f) + weigh w (removed_run f)) ≡ weigh w (unmark f) + brought w f
          → weigh w (unmark (inverse_marks (marked r a as' k f))) + (brought w (inverse_marks (marked r a as' k f)) + weigh w (removed_run (marked r a as' k f)))
          ≡ weigh w (unmark (marked r a as' k f)) + brought w (marked r a as' k f)
      go true o e q hk hf =
          let u : left_on_removed a ≡ a = rw e at own in
          let first : 0 ≡ weigh w a.first = ap (λ x. weigh w x.first) u in
          let into : 0 ≡ weigh w a.into = ap (λ x. weigh w x.into) u in
          let last : 0 ≡ weigh w a.last = ap (λ x. weigh w x.last) u in
          let attributes : 0 ≡ weigh w a.attributes = ap (λ x. weigh w x.attributes) u in
          let content : 0 ≡ weigh w (or_else a.content nil) = ap (λ x. weigh w (or_else x.content nil)) u in
          let before : weigh w a.before ≡ 0 = ap (weigh w) g.0.0 in
          let ls : brought_by_labels w (cleared_labels as') ≡ brought_by_labels w as' = ap (brought_by_labels w) (rw e at labels) in
          let ks : brought w (cleared k) ≡ brought w k = ap (brought w) (rw e at below) in
          rw e (simp (unmark-⊞, unmark_taken_out, brought-⊞, taken_out_brings, weigh-⊕) (omega (arith, cleared_labels_bring w as', cleared_bring w k)))
      go false None e q hk hf =
          let before : weigh w a.before ≡ 0 = ap (weigh w) g.0.0 in
          let into : weigh w a.into ≡ 0 = ap (weigh w) g.0.1 in
          let last : weigh w a.last ≡ 0 = ap (weigh w) g.0.2 in
          let content : weigh w (or_else a.content nil) ≡ 0 = rw q in
          let ih = hk (rw (e, q) at below) in
          rw (e, q) (simp (
            unmark-⊞,
            unmark_taken_out,
            brought-⊞,
            taken_out_brings,
            unmark_insert_all_marked,
            unmark_labels_taken_out,
            unmark_labels_undone,
            labels_taken_out_bring,
            labels_undone_bring,
            weigh_childless,
            weigh_insert_labels,
            weigh_labels-++,
          )
          (omega (
            arith,
            kept_and_removed w as',
            replacing_weighs w as' h.1,
            among_weighs w r.kind a.attributes h.0.attributes,
            kept_brings_nothing w a e,
            weigh-⊕ w a.first (unmark (inverse_marks k)),
            weigh-⊕ w a.after (unmark (inverse_marks f)),
          )))
      go false (Some c) e q hk hf =
          let u : left_on_kept a ≡ a = rw e at own in
          let first : weigh w (cond (is_some a.content) nil a.first) ≡ weigh w a.first = ap (λ x. weigh w x.first) u in
          let first' : 0 ≡ weigh w a.first = rw q at first in
          let before : weigh w a.before ≡ 0 = ap (weigh w) g.0.0 in
          let into : weigh w a.into ≡ 0 = ap (weigh w) g.0.1 in
          let last : weigh w a.last ≡ 0 = ap (weigh w) g.0.2 in
          let ks : brought w (cleared k) ≡ brought w k = ap (brought w) (rw (e, q) at below) in
          rw (e, q) (simp (
            unmark-⊞,
            unmark_taken_out,
            brought-⊞,
            taken_out_brings,
            unmark_insert_all_marked,
            unmark_labels_taken_out,
            unmark_labels_undone,
            labels_taken_out_bring,
            labels_undone_bring,
            weigh_childless,
            weigh_insert_labels,
            weigh_labels-++,
          )
          (omega (
            arith,
            kept_and_removed w as',
            replacing_weighs w as' h.1,
            among_weighs w r.kind a.attributes h.0.attributes,
            kept_brings_nothing w a e,
            cleared_bring w k,
            weigh-⊕ w a.after (unmark (inverse_marks f)),
          )))
