-- The nodes of the operations of a key, copied operation by operation.
use Rattle.std.proofs.Common.{◌≡◌, ℕ, ◌+◌, ◌-◌, ◌^◌, ◌<◌, ◌≤◌, true, false, ◌⊎◌, List, [], length, get_or, take, drop, sym, refl, ap, ◌∙◌, inl, inr, arith, length-append, length-drop}
use Rattle.std.proofs.lemmas.List.{get_or-drop, length-take-le}
use Rattle.records.specs.declared.nodes.Node.{Node}
use Rattle.document.specs.Listing.{rows}
use Rattle.walk.specs.Written.{written}
use Rattle.reduce.specs.declared.keys.Entry.{Entry}
use Rattle.reduce.specs.declared.keys.Key.{Key}
use Rattle.reduce.specs.declared.ordered_list.OrderedList.{OrderedList}
use Rattle.reduce.specs.declared.tables.Tables.{Tables}
use Rattle.reduce.specs.Mirror.{group}
use Rattle.reduce.specs.Groups.{blank, entry_for, Begins}
use Rattle.reduce.specs.Lists.{changes}
use Rattle.reduce.specs.Output.{Output, output, SameTables, Copied}
use Rattle.reduce.proofs.Scanning.{group_is, stretch_more}
use Rattle.reduce.proofs.Indexing.{no_entry, rows_from, Run, run_begins, RunOn, run_on, run_ends}
use Rattle.reduce.proofs.Readied.{ready}

module _ (me : OrderedList) (key : Key) (entries : List Entry) (t0 : Tables) where
  abbrev pub from : ℕ → List Node
  from q = rows_from key.target key.code me.operations.now me.nodes.now q

  -- so many entries are passed, and the operations from some place on are still to be copied
  pub record Passed (i : ℕ) (t : Tables) : Type 0 where
    pub low : ℕ
    pub left : ℕ
    pub begins : Begins key.target key.code me.operations.now me.entries.now low
    pub part : entries ≡ drop low me.entries.now
    pub run : Run key.target key.code me.operations.now me.entries.now low (low + i) left
    pub same : SameTables t0 t
    pub operations : t.operations.now ≡ t0.operations.now
    pub used : t.used.operations ≡ t0.used.operations
    pub more : t.used.nodes + length (from left) ≡ t0.used.nodes + length (from 0)
    pub text : written t.nodes.now t.used.nodes (from left) ≡ written t0.nodes.now t0.used.nodes (from 0)

  abbrev whole : List Node
  whole = rows 0 (group (changes me) key.target key.code)

  whole_is : whole ≡ from 0
  whole_is = group_is key.target key.code me.operations.now me.nodes.now (ready me).stretches

  pub none_passed : (low : ℕ) → Begins key.target key.code me.operations.now me.entries.now low → entries ≡ drop low me.entries.now → Passed 0 t0
  none_passed low b e = record {
    low = low;
    left = 0;
    begins = b;
    part = e;
    run = let z : low + 0 ≡ low = omega arith in rw z (run_begins key.target key.code me.operations.now me.nodes.now me.entries.now (ready me) low b);
    same = record { operations = refl; nodes = refl };
    operations = refl;
    used = refl;
    more = refl;
    text = refl;
  }

  module _ (i : ℕ) (t : Tables) (p : Passed i t) where
    entry_is : get_or entries i no_entry ≡ get_or me.entries.now (p.low + i) no_entry
    entry_is = ap (λ (es : List Entry). get_or es i no_entry) p.part ∙ get_or-drop p.low me.entries.now i no_entry

    long : length entries ≡ length me.entries.now - p.low
    long = ap length p.part ∙ length-drop p.low me.entries.now

    ended : (length entries ≤ i) ⊎ ((i < length entries) × (entry_for key.target key.code (get_or entries i no_entry) ≡ false)) → from p.left ≡ []
    ended (inl h) = run_ends key.target key.code me.operations.now me.nodes.now me.entries.now (ready me) p.low (p.low + i) p.left p.begins p.run (inl (omega (arith, long, p.begins.within)))
    ended (inr h) =
        run_ends key.target key.code me.operations.now me.nodes.now me.entries.now (ready me) p.low (p.low + i) p.left p.begins p.run
        (inr (omega (arith, long, h.0), ap (entry_for key.target key.code) (sym entry_is) ∙ h.1))

    pub all_passed : (length entries ≤ i) ⊎ ((i < length entries) × (entry_for key.target key.code (get_or entries i no_entry) ≡ false)) → Copied t0 t whole
    all_passed w =
        let e = ended w in
        let text : t.nodes.now ≡ written t0.nodes.now t0.used.nodes whole = sym (ap (written t.nodes.now t.used.nodes) e) ∙ p.text ∙ ap (written t0.nodes.now t0.used.nodes) (sym whole_is) in
        let count : t.used.nodes ≡ t0.used.nodes + length whole = omega (arith, p.more, ap length e, ap length whole_is) in
        record { same = p.same; left = λ j. record { operations = p.operations j; nodes = text j; used = record { operations = p.used j; nodes = count j } } }

    module _ (h : i < length entries) (e : entry_for key.target key.code (get_or entries i no_entry) ≡ true) where
      at : p.low + i < length me.entries.now
      at = omega (arith, long)

      on : RunOn key.target key.code me.operations.now me.nodes.now me.entries.now (ready me) p.low (p.low + i) p.left
      on = run_on key.target key.code me.operations.now me.nodes.now me.entries.now (ready me) p.low (p.low + i) p.left p.begins p.run at (ap (entry_for key.target key.code) (sym entry_is) ∙ e)

      abbrev here : Entry
      here = get_or entries i no_entry

      abbrev count : ℕ
      count = (get_or me.operations.now here.position blank).count

      abbrev there : Entry
      there = get_or me.entries.now (p.low + i) no_entry

      counts : count ≡ (get_or me.operations.now there.position blank).count
      counts = ap (λ (x : Entry). (get_or me.operations.now x.position blank).count) entry_is

      starts : here.start ≡ there.start
      starts = ap (λ (x : Entry). x.start) entry_is

      pub known : here.position < length me.operations.now
      known =
          let k = ((ready me).indexed.each (p.low + i) no_entry (omega (arith, at, (ready me).long))).0 in
          omega (arith, k, ap (λ (x : Entry). x.position) entry_is)

      pub inside : here.start + count ≤ length me.nodes.now
      inside = omega (arith, on.inside, counts, starts)

      pub small : t0.used.nodes + length whole < 2 ^ 32 → t.used.nodes + count < 2 ^ 32
      small f =
          let n = (get_or me.operations.now there.position blank).count in
          let k : length (take n (drop there.start me.nodes.now)) ≡ n = length-take-le n (drop there.start me.nodes.now) (omega (arith, on.inside, length-drop there.start me.nodes.now)) in
          omega (arith, f, p.more, ap length whole_is, ap length on.rows_are, length-append (take n (drop there.start me.nodes.now)) (from (there.position + 1)), k, counts)

      pub one_passed : (t' : Tables) (ys : List Node) → ys ≡ take count (drop here.start me.nodes.now) → Copied t t' ys → Passed (i + 1) t'
      one_passed t' ys is c =
          let n = (get_or me.operations.now there.position blank).count in
          let slice : ys ≡ take n (drop there.start me.nodes.now) = is ∙ (λ j. take (counts j) (drop (starts j) me.nodes.now)) in
          let was : Output = output t.operations.now t.nodes.now t.used in
          let count_is : length ys ≡ n = ap length slice ∙ length-take-le n (drop there.start me.nodes.now) (omega (arith, on.inside, length-drop there.start me.nodes.now)) in
          let answer : t'.used.nodes ≡ t.used.nodes + n = ap (λ (o : Output). o.used.nodes) c.left ∙ ap (λ m. t.used.nodes + m) count_is in
          let table : t'.nodes.now ≡ written t.nodes.now t.used.nodes (take n (drop there.start me.nodes.now)) = ap (λ (o : Output). o.nodes) c.left ∙ ap (written t.nodes.now t.used.nodes) slice in
          let G = stretch_more t.nodes.now t'.nodes.now _ me.nodes.now _ (from (there.position + 1)) t.used.nodes t'.used.nodes n there.start _ on.inside on.rows_are answer table p.more p.text in
          record {
            low = p.low;
            left = there.position + 1;
            begins = p.begins;
            part = p.part;
            run = let z : p.low + i + 1 ≡ p.low + (i + 1) = omega arith in rw (← z) on.next;
            same = record { operations = c.same.operations ∙ p.same.operations; nodes = c.same.nodes ∙ p.same.nodes };
            operations = ap (λ (o : Output). o.operations) c.left ∙ p.operations;
            used = ap (λ (o : Output). o.used.operations) c.left ∙ p.used;
            more = G.0;
            text = G.1;
          }
