-- What the record at a place hands out where an operation is due, and that one is due behind its nodes.
use Rattle.std.proofs.Common.{◌≡◌, ℕ, zero, suc, ◌+◌, ◌-◌, ◌*◌, ◌/◌, ◌<◌, ◌≤◌, Bool, true, false, cond, List, [], ◌∷◌, length, get_or, map, take, drop, Some, None, Option, sym, refl, ap, ◌∙◌, subst, arith, length-drop}
use Rattle.std.proofs.lemmas.List.{drop-drop}
use lib.ListN.{length-map}
use Rattle.codec.specs.declared.spelling.Record.{Record}
use Rattle.records.specs.declared.operations.Operation.{Operation}
use Rattle.codec.specs.Codec.{record_of}
use Rattle.codec.specs.Fields.{node_of, operation_of}
use Rattle.codec.proofs.Spelled.{some_none, operation_back}
use Rattle.reader.specs.Bytes.{records}
use Rattle.reader.specs.Handed.{end, gives, step_of, Passes}
use Rattle.reader.specs.Reading.{ill_built, structure_from, misformed_from}
use Rattle.reader.proofs.Back.{structure_suc, misformed_suc, record_step, built}
use Rattle.reader.proofs.Rows.{length_records, raw_at, next_record, no_record}

pub step_end : (bs : List ℕ) (k : ℕ) → length bs / 16 ≤ k → step_of bs k ≡ end
unfolding step_of
step_end bs k h = rw (no_record bs k h)

-- behind as many nodes as are due
behind_nodes : (d n : ℕ) (rs : List Record) → d ≤ length rs → structure_from d n rs ≡ None → misformed_from d n rs ≡ None → Passes (n + d) (drop d rs)
behind_nodes zero n rs h s m = let e : n ≡ n + 0 = omega arith in subst (λ k. Passes k rs) e (s, m)
behind_nodes (suc d) n [] h s m = absurd (omega arith)
behind_nodes (suc d) n (r ∷ rs) h s m =
    let x = record_step n (node_of r) (misformed_from d (n + 1) rs) (sym (misformed_suc d n r rs) ∙ m) in
    let e : n + 1 + d ≡ n + suc d = omega arith in
    subst (λ k. Passes k (drop d rs)) e (behind_nodes d (n + 1) rs (omega arith) (sym (structure_suc d n r rs) ∙ s) x.2)

-- a test that finds nothing
passed_over : (b : Bool) (n : ℕ) (later : Option ℕ) → cond b (Some n) later ≡ None → b ≡ false
passed_over true n later e = absurd (some_none n e)
passed_over false n later e = refl

pub record Hands (bs : List ℕ) (k : ℕ) (o : Operation) : Type 0 where
  pub step : step_of bs k ≡ gives o (take (16 * o.count) (drop (16 * k + 16) bs)) k
  pub within : k + 1 + o.count ≤ length bs / 16
  pub rest : Passes (k + 1 + o.count) (drop (k + 1 + o.count) (records bs))

module _ (bs : List ℕ) (raws : List (List ℕ)) (k : ℕ) (raw : List ℕ) (r : Record) (same : map record_of raws ≡ records bs) (found : (k < length raws) × ((d : List ℕ) → raw ≡ get_or raws k d)) (read : r ≡ record_of raw) (passes : Passes k (drop k (records bs))) where
  count : length raws ≡ length bs / 16
  count = sym (length-map raws record_of) ∙ ap length same ∙ length_records bs

  front : drop k (records bs) ≡ r ∷ drop (k + 1) (records bs)
  front = let h : k < length bs / 16 = omega (arith, found.0, count) in next_record bs k r h (raw_at raws bs k raw r same h (read ∙ ap record_of (found.1 raw)))

  here : Passes k (r ∷ drop (k + 1) (records bs))
  here = subst (Passes k) front passes

  well_formed : (o : Operation) × (operation_of r ≡ Some o) × (misformed_from r.link (k + 1) (drop (k + 1) (records bs)) ≡ None)
  well_formed = record_step k (operation_of r) (misformed_from r.link (k + 1) (drop (k + 1) (records bs))) here.1

  -- an operation stands here
  pub is_operation : operation_of r ≡ None → ⊥
  is_operation m = some_none well_formed.0 (sym well_formed.1 ∙ m)

  gives_step : (o : Operation) → operation_of r ≡ Some o → step_of bs k ≡ gives o (take (16 * o.count) (drop (16 * k + 16) bs)) k
  unfolding step_of
  gives_step o m = rw (front, passed_over (ill_built 0 r (length (drop (k + 1) (records bs)))) k _ here.0, m)

  pub hands : (o : Operation) → operation_of r ≡ Some o → Hands bs k o
  hands o m =
      let rs = drop (k + 1) (records bs) in
      let b = built k r rs here.0 in
      let c : o.count ≡ r.link = ap (λ q. q.link) (operation_back r o m) in
      let follow : length rs ≡ length bs / 16 - k - 1 = omega (arith, length-drop (k + 1) (records bs), length_records bs) in
      let next : Passes (k + 1 + r.link) (drop r.link rs) = behind_nodes r.link (k + 1) rs b.0 b.1 well_formed.2 in
      record {
        step = gives_step o m;
        within = omega (arith, b.0, c, follow, found.0, count);
        rest = subst (λ n. Passes (k + 1 + n) (drop (k + 1 + n) (records bs))) (sym c) (subst (Passes (k + 1 + r.link)) (drop-drop r.link (k + 1) (records bs)) next);
      }
