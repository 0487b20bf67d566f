-- The changes of a marked document stand in order, and no two share target and code.
use Rattle.std.proofs.Common.{◌≡◌, ℕ, ◌+◌, ◌<◌, ◌≤◌, Bool, true, false, eqb, ◌⊎◌, List, [], ◌∷◌, ◌++◌, length, Some, None, Option, sym, refl, ap, ◌∙◌, inl, inr, append_assoc, append-nil, arith, length-append}
use Rattle.std.proofs.lemmas.Bool.{eq-eqb}
use Rattle.records.specs.Formed.{code_number}
use Rattle.records.specs.declared.nodes.Node.{Node}
use Rattle.records.specs.declared.operations.Code.{Code}
use Rattle.records.specs.declared.operations.Code.TheVariants.{InsertBefore, InsertAfter, InsertFirst, InsertInto, InsertLast, InsertAttributes, ReplaceNode, ReplaceContent}
use Rattle.document.specs.Tree.{Forest, nil, node, one, Label, size, size_labels, count, count_labels}
use Rattle.document.specs.Listing.{rows, row, attribute_rows, listing}
use Rattle.document.proofs.Counting.{count_rows, one_zero, one_refl, count_rows-++, length_attribute_rows, length_of_rows, count_attribute_rows, count_of_rows}
use Rattle.changes.specs.Changes.{Change}
use Rattle.changes.specs.Marks.{NodeChanges, MarkedLabel, unmark, unmark_labels, MarkedForest, no_marks, marked}
use Rattle.changes.specs.Reduced.{insertion, deletion_of, replacement, new_value, new_name, changes_by_code, label_changes_in_order, changes_in_order}
use Rattle.changes.specs.Order.{rank, PrecedesAll, InOrder, count_changes}
use Rattle.changes.proofs.Weighing.{total}
use Rattle.changes.proofs.Suiting.{pair, marks_pair}

-- by any numbers that ascend in document order
abbrev By : (ℕ → ℕ) → Change → Change → Type 0
By ρ o p = (ρ o.target < ρ p.target) ⊎ ((o.target ≡ p.target) × (code_number o.code < code_number p.code))

abbrev ByAll : (ℕ → ℕ) → Change → List Change → Type 0
ByAll ρ o [] = Unit {0}
ByAll ρ o (p ∷ l) = By ρ o p × ByAll ρ o l

abbrev Ordered : (ℕ → ℕ) → List Change → Type 0
Ordered ρ [] = Unit {0}
Ordered ρ (o ∷ l) = ByAll ρ o l × Ordered ρ l

-- targets with numbers from n on, below m
abbrev Ranks : (ℕ → ℕ) → ℕ → ℕ → List Change → Type 0
Ranks ρ n m [] = Unit {0}
Ranks ρ n m (o ∷ l) = (n ≤ ρ o.target) × (ρ o.target < m) × Ranks ρ n m l

ranks_wider : (ρ : ℕ → ℕ) (n m n' m' : ℕ) (l : List Change) → n' ≤ n → m ≤ m' → Ranks ρ n m l → Ranks ρ n' m' l
ranks_wider ρ n m n' m' [] p q h = tt
ranks_wider ρ n m n' m' (o ∷ l) p q h = (omega arith, omega arith, ranks_wider ρ n m n' m' l p q h.2)

ranks-++ : (ρ : ℕ → ℕ) (n m : ℕ) (l k : List Change) → Ranks ρ n m l → Ranks ρ n m k → Ranks ρ n m (l ++ k)
ranks-++ ρ n m [] k h g = g
ranks-++ ρ n m (o ∷ l) k h g = (h.0, h.1, ranks-++ ρ n m l k h.2 g)

by_all_below : (ρ : ℕ → ℕ) (o : Change) (m m' : ℕ) (k : List Change) → ρ o.target < m → Ranks ρ m m' k → ByAll ρ o k
by_all_below ρ o m m' [] p h = tt
by_all_below ρ o m m' (x ∷ k) p h = (inl (omega arith), by_all_below ρ o m m' k p h.2)

by_all-++ : (ρ : ℕ → ℕ) (o : Change) (l k : List Change) → ByAll ρ o l → ByAll ρ o k → ByAll ρ o (l ++ k)
by_all-++ ρ o [] k h g = g
by_all-++ ρ o (x ∷ l) k h g = (h.0, by_all-++ ρ o l k h.1 g)

ordered-++ : (ρ : ℕ → ℕ) (n m m' : ℕ) (l k : List Change) → Ordered ρ l → Ranks ρ n m l → Ordered ρ k → Ranks ρ m m' k → Ordered ρ (l ++ k)
ordered-++ ρ n m m' [] k h r g q = g
ordered-++ ρ n m m' (o ∷ l) k h r g q = (by_all-++ ρ o l k h.0 (by_all_below ρ o m m' k r.1 q), ordered-++ ρ n m m' l k h.1 r.2 g q)

-- changes on one target with ascending codes, from c on
abbrev Codes : ℕ → ℕ → List Change → Type 0
Codes t c [] = Unit {0}
Codes t c (o ∷ l) = (o.target ≡ t) × (c ≤ code_number o.code) × Codes t (code_number o.code + 1) l

codes_from : (t c c' : ℕ) (l : List Change) → c ≤ c' → Codes t c' l → Codes t c l
codes_from t c c' [] p h = tt
codes_from t c c' (o ∷ l) p h = (h.0, omega (arith, h.1), h.2)

insertion_codes : (t : ℕ) (b : Code) (f : Forest) (l : List Change) → Codes t (code_number b + 1) l → Codes t (code_number b) (insertion t b f ++ l)
insertion_codes t b nil l h = codes_from t (code_number b) (code_number b + 1) l (omega arith) h
insertion_codes t b (node r as' k f) l h = (refl, omega arith, h)

deletion_codes : (t : ℕ) (b : Bool) (l : List Change) → Codes t 18 l → Codes t 17 (deletion_of t b ++ l)
deletion_codes t false l h = codes_from t 17 18 l (omega arith) h
deletion_codes t true l h = (refl, omega arith, h)

replacement_codes : (t : ℕ) (b : Code) (o : Option Forest) (l : List Change) → Codes t (code_number b + 1) l → Codes t (code_number b) (replacement t b o ++ l)
replacement_codes t b None l h = codes_from t (code_number b) (code_number b + 1) l (omega arith) h
replacement_codes t b (Some f) l h = (refl, omega arith, h)

value_codes : (t : ℕ) (o : Option ℕ) (l : List Change) → Codes t 20 l → Codes t 19 (new_value t o ++ l)
value_codes t None l h = codes_from t 19 20 l (omega arith) h
value_codes t (Some v) l h = (refl, omega arith, h)

name_codes : (t : ℕ) (o : Option ℕ) → Codes t 21 (new_name t o)
name_codes t None = tt
name_codes t (Some n) = (refl, omega arith, tt)

by_code_codes : (t : ℕ) (a : NodeChanges) → Codes t 11 (changes_by_code t a)
by_code_codes t a =
    insertion_codes t InsertBefore a.before _ (insertion_codes t InsertAfter a.after _ (insertion_codes t InsertFirst a.first _ (insertion_codes t InsertInto a.into _
    (insertion_codes t InsertLast a.last _ (insertion_codes t InsertAttributes a.attributes _ (deletion_codes t a.deleted _ (replacement_codes t ReplaceNode a.replaced _
    (value_codes t a.revalued _ (replacement_codes t ReplaceContent a.content _ (name_codes t a.renamed))))))))))

codes_by_all : (ρ : ℕ → ℕ) (t c : ℕ) (o : Change) (l : List Change) → o.target ≡ t → code_number o.code < c → Codes t c l → ByAll ρ o l
codes_by_all ρ t c o [] e p h = tt
codes_by_all ρ t c o (x ∷ l) e p h = (inr (e ∙ sym h.0, omega (arith, h.1)), codes_by_all ρ t (code_number x.code + 1) o l e (omega (arith, h.1)) h.2)

codes_ordered : (ρ : ℕ → ℕ) (t c : ℕ) (l : List Change) → Codes t c l → Ordered ρ l
codes_ordered ρ t c [] h = tt
codes_ordered ρ t c (o ∷ l) h = (codes_by_all ρ t (code_number o.code + 1) o l h.0 (omega arith) h.2, codes_ordered ρ t (code_number o.code + 1) l h.2)

codes_rank : (ρ : ℕ → ℕ) (t c n : ℕ) (l : List Change) → ρ t ≡ n → Codes t c l → Ranks ρ n (n + 1) l
codes_rank ρ t c n [] e h = tt
codes_rank ρ t c n (o ∷ l) e h =
    let u : ρ o.target ≡ n = ap ρ h.0 ∙ e in
    (omega arith, omega arith, codes_rank ρ t (code_number o.code + 1) n l e h.2)

-- the nodes of a row are numbered in document order, from n on
abbrev pub RankedLabels : (ℕ → ℕ) → ℕ → List Label → Type 0
RankedLabels ρ n [] = Unit {0}
RankedLabels ρ n (r ∷ l) = (ρ r.id ≡ n) × RankedLabels ρ (n + 1) l

abbrev pub Ranked : (ℕ → ℕ) → ℕ → Forest → Type 0
Ranked ρ n nil = Unit {0}
Ranked ρ n (node r as' k f) =
    (ρ r.id ≡ n) × RankedLabels ρ (n + 1) as' × Ranked ρ (n + 1 + size_labels as') k × Ranked ρ (n + 1 + size_labels as' + size k) f

ordered_labels : (ρ : ℕ → ℕ) (n : ℕ) (l : List MarkedLabel) → RankedLabels ρ n (unmark_labels l)
    → Ordered ρ (label_changes_in_order l) × Ranks ρ n (n + size_labels (unmark_labels l)) (label_changes_in_order l)
ordered_labels ρ n [] h = (tt, tt)
ordered_labels ρ n (m ∷ l) h =
    let own = changes_by_code m.label.id m.changes in
    let rest = label_changes_in_order l in
    let c = by_code_codes m.label.id m.changes in
    let u = ordered_labels ρ (n + 1) l h.1 in
    let e = n + 1 + size_labels (unmark_labels l) in
    let r = codes_rank ρ m.label.id 11 n own h.0 c in (
      ordered-++ ρ n (n + 1) e own rest (codes_ordered ρ m.label.id 11 own c) r u.0 u.1,
      ranks-++ ρ n (n + (1 + size_labels (unmark_labels l))) own rest (ranks_wider ρ n (n + 1) n (n + (1 + size_labels (unmark_labels l))) own (omega arith) (omega arith) r)
          (ranks_wider ρ (n + 1) e n (n + (1 + size_labels (unmark_labels l))) rest (omega arith) (omega arith) u.1),
    )

pub ordered_marks : (ρ : ℕ → ℕ) (n : ℕ) (m : MarkedForest) → Ranked ρ n (unmark m) → Ordered ρ (changes_in_order m) × Ranks ρ n (n + size (unmark m)) (changes_in_order m)
ordered_marks ρ n no_marks h = (tt, tt)
ordered_marks ρ n (marked r a as' k f) h =
    go (ordered_marks ρ (n + 1 + size_labels (unmark_labels as')) k h.2) (ordered_marks ρ (n + 1 + size_labels (unmark_labels as') + size (unmark k)) f h.3)
  where
    own : List Change
    own = changes_by_code r.id a

    ls : List Change
    ls = label_changes_in_order as'

    ks : List Change
    ks = changes_in_order k

    fs : List Change
    fs = changes_in_order f

    -- where the attributes, the children, what stands behind, and the row ends begin
    a1 : ℕ
    a1 = n + 1

    a2 : ℕ
    a2 = n + 1 + size_labels (unmark_labels as')

    a3 : ℕ
    a3 = n + 1 + size_labels (unmark_labels as') + size (unmark k)

    a4 : ℕ
    a4 = n + 1 + size_labels (unmark_labels as') + size (unmark k) + size (unmark f)

    e : ℕ
    e = n + (1 + (size_labels (unmark_labels as') + (size (unmark k) + size (unmark f))))

    c : Codes r.id 11 own
    c = by_code_codes r.id a

    r0 : Ranks ρ n a1 own
    r0 = codes_rank ρ r.id 11 n own h.0 c

    ul : Ordered ρ ls × Ranks ρ a1 a2 ls
    ul = ordered_labels ρ a1 as' h.1

    lw : Ranks ρ a1 a4 ls
    lw = ranks_wider ρ a1 a2 a1 a4 ls (omega arith) (omega arith) ul.1

    go : Ordered ρ ks × Ranks ρ a2 a3 ks → Ordered ρ fs × Ranks ρ a3 a4 fs
        → Ordered ρ (own ++ (ls ++ (ks ++ fs))) × Ranks ρ n e (own ++ (ls ++ (ks ++ fs)))
    go uk uf =
        let kw = ranks_wider ρ a2 a3 a2 a4 ks (omega arith) (omega arith) uk.1 in
        let fw = ranks_wider ρ a3 a4 a2 a4 fs (omega arith) (omega arith) uf.1 in (
          ordered-++ ρ n a1 a4 own _ (codes_ordered ρ r.id 11 own c) r0
              (ordered-++ ρ a1 a2 a4 ls _ ul.0 ul.1 (ordered-++ ρ a2 a3 a4 ks fs uk.0 uk.1 uf.0 uf.1) (ranks-++ ρ a2 a4 ks fs kw fw))
              (ranks-++ ρ a1 a4 ls _ lw (ranks-++ ρ a1 a4 ks fs (ranks_wider ρ a2 a4 a1 a4 ks (omega arith) (omega arith) kw) (ranks_wider ρ a2 a4 a1 a4 fs (omega arith) (omega arith) fw))),
          ranks-++ ρ n e own _ (ranks_wider ρ n a1 n e own (omega arith) (omega arith) r0)
              (ranks-++ ρ n e ls _ (ranks_wider ρ a1 a4 n e ls (omega arith) (omega arith) lw)
              (ranks-++ ρ n e ks fs (ranks_wider ρ a2 a4 n e ks (omega arith) (omega arith) kw) (ranks_wider ρ a2 a4 n e fs (omega arith) (omega arith) fw))),
        )

-- THE PLACE in the listing is such a number
rank_past : (t : ℕ) (xs ys : List Node) → count_rows t xs ≡ 0 → rank t (xs ++ ys) ≡ length xs + rank t ys
rank_past t [] ys h = omega arith
rank_past t (x ∷ xs) ys h = rw (one_zero (eqb x.id t) (omega arith)) (omega (arith, rank_past t xs ys (omega arith)))

rank_here : (x : Node) (xs : List Node) → rank x.id (x ∷ xs) ≡ 0
rank_here x xs = rw (eq-eqb x.id x.id refl)

ranked_labels : (ρ : ℕ → ℕ) (p n : ℕ) (l : List Label) (before rest : List Node) → length before ≡ n → ((t : ℕ) → ρ t ≡ rank t (before ++ (attribute_rows p l ++ rest)))
    → ((t : ℕ) → count_rows t before + count_labels t l ≤ 1) → RankedLabels ρ n l
ranked_labels ρ p n [] before rest e g c = tt
ranked_labels ρ p n (r ∷ l) before rest e g c = (
  g r.id ∙ rank_past r.id before _ (omega (arith, c r.id, one_refl r.id)) ∙ omega (arith, rank_here (row p r) (attribute_rows p l ++ rest)),
  ranked_labels ρ p (n + 1) l (before ++ (row p r ∷ [])) rest (omega (arith, length-append before (row p r ∷ [])))
      (λ t. g t ∙ ap (rank t) (sym (append_assoc before (row p r ∷ []) (attribute_rows p l ++ rest))))
      (λ t. omega (arith, c t, count_rows-++ t before (row p r ∷ []))),
)

ranked_rows : (ρ : ℕ → ℕ) (p n : ℕ) (f : Forest) (before rest : List Node) → length before ≡ n → ((t : ℕ) → ρ t ≡ rank t (before ++ (rows p f ++ rest)))
    → ((t : ℕ) → count_rows t before + count t f ≤ 1) → Ranked ρ n f
ranked_rows ρ p n nil before rest e g c = tt
ranked_rows ρ p n (node r as' k f) before rest e g c = (
  g r.id ∙ rank_past r.id before _ (omega (arith, c r.id, one_refl r.id))
      ∙ omega (arith, rank_here (row p r) ((attribute_rows r.id as' ++ (rows r.id k ++ rows p f)) ++ rest)),
  ranked_labels ρ r.id (n + 1) as' b1 ((rows r.id k ++ rows p f) ++ rest) l1 (λ t. g t ∙ ap (rank t) q1) (λ t. omega (arith, c t, c1 t)),
  ranked_rows ρ r.id (n + 1 + size_labels as') k b2 (rows p f ++ rest) l2 (λ t. g t ∙ ap (rank t) q2) (λ t. omega (arith, c t, c1 t, c2 t)),
  ranked_rows ρ p (n + 1 + size_labels as' + size k) f b3 rest l3 (λ t. g t ∙ ap (rank t) q3) (λ t. omega (arith, c t, c1 t, c2 t, c3 t)),
)
  where
    A : List Node
    A = attribute_rows r.id as'

    K : List Node
    K = rows r.id k

    F : List Node
    F = rows p f

    b1 : List Node
    b1 = before ++ (row p r ∷ [])

    b2 : List Node
    b2 = b1 ++ attribute_rows r.id as'

    b3 : List Node
    b3 = b2 ++ rows r.id k

    l1 : length b1 ≡ n + 1
    l1 = omega (arith, length-append before (row p r ∷ []))

    l2 : length b2 ≡ n + 1 + size_labels as'
    l2 = omega (arith, l1, length-append b1 (attribute_rows r.id as'), length_attribute_rows r.id as')

    l3 : length b3 ≡ n + 1 + size_labels as' + size k
    l3 = omega (arith, l2, length-append b2 (rows r.id k), length_of_rows r.id k)

    c1 : (t : ℕ) → count_rows t b1 ≡ count_rows t before + one (eqb r.id t)
    c1 t = omega (arith, count_rows-++ t before (row p r ∷ []))

    c2 : (t : ℕ) → count_rows t b2 ≡ count_rows t b1 + count_labels t as'
    c2 t = omega (arith, count_rows-++ t b1 (attribute_rows r.id as'), count_attribute_rows t r.id as')

    c3 : (t : ℕ) → count_rows t b3 ≡ count_rows t b2 + count t k
    c3 t = omega (arith, count_rows-++ t b2 (rows r.id k), count_of_rows t r.id k)

    q1 : before ++ (row p r ∷ ((A ++ (K ++ F)) ++ rest)) ≡ b1 ++ (A ++ ((K ++ F) ++ rest))
    q1 = simp append_assoc

    q2 : before ++ (row p r ∷ ((A ++ (K ++ F)) ++ rest)) ≡ b2 ++ (K ++ (F ++ rest))
    q2 = simp append_assoc

    q3 : before ++ (row p r ∷ ((A ++ (K ++ F)) ++ rest)) ≡ b3 ++ (F ++ rest)
    q3 = simp append_assoc

by_precedes : (d : Forest) (o : Change) (l : List Change) → ByAll (λ t. rank t (listing d)) o l → PrecedesAll d o l
by_precedes d o [] h = tt
by_precedes d o (p ∷ l) h = (h.0, by_precedes d o l h.1)

ordered_in_order : (d : Forest) (l : List Change) → Ordered (λ t. rank t (listing d)) l → InOrder d l
ordered_in_order d [] h = tt
ordered_in_order d (o ∷ l) h = (by_precedes d o l h.0, ordered_in_order d l h.1)

numbered : (d : Forest) → ((t : ℕ) → count t d ≤ 1) → Ranked (λ t. rank t (listing d)) 0 d
unfolding listing
numbered d c = ranked_rows (λ t. rank t (rows 0 d)) 0 0 d [] [] refl (λ t. ap (rank t) (sym (append-nil (rows 0 d)))) (λ t. omega (arith, c t))

pub changes_stand_in_order : (m : MarkedForest) → ((t : ℕ) → count t (unmark m) ≤ 1) → InOrder (unmark m) (changes_in_order m)
changes_stand_in_order m c = ordered_in_order (unmark m) (changes_in_order m) (ordered_marks (λ t. rank t (listing (unmark m))) 0 m (numbered (unmark m) c)).0

-- no two changes share target and code
pub count_is_total : (t : ℕ) (c : Code) (l : List Change) → count_changes t c l ≡ total (pair t c) l
count_is_total t c [] = refl
count_is_total t c (o ∷ l) = omega (arith, count_is_total t c l)

pub changes_once : (m : MarkedForest) → ((t : ℕ) → count t (unmark m) ≤ 1) → (t : ℕ) (c : Code) → count_changes t c (changes_in_order m) ≤ 1
changes_once m h t c = omega (arith, count_is_total t c (changes_in_order m), marks_pair t c m, h t)
