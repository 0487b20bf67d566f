use Rattle.std.proofs.Common.{◌≡◌, Some, None, Option, is_some, is_ok, refl, ap, ◌∙◌}
use Rattle.std.specs.Option.{ok_or}
use Rattle.codec.specs.Fields.{operation_of}
use Rattle.reader.proofs.reading.spells_due.Goals as goal

is_spelt : {X E : Type 0} (o : Option X) (e : E) → is_ok (ok_or o e) ≡ is_some o
is_spelt None e = refl
is_spelt (Some x) e = refl

pub returns-then-due-eq0 : goal.returns-then-due-eq0
returns-then-due-eq0 c = rw c.if-due-eq0.true (c.is_ok.ensures.value ∙ ap is_ok c.try_from.ensures ∙ is_spelt (operation_of c.args.found) _)
