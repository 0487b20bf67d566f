use Rattle.std.proofs.Common.{◌≡◌, Ok, sym, ap, ◌∙◌, subst}
use Rattle.document.specs.Table.{table_test, document_of}
use Rattle.document.proofs.Gathering.{listing_gives_document}
use Rattle.document.proofs.Passing.{passing_lists_document}
use Rattle.document.proofs.Passes.{listing_passes}
use Rattle.document.proofs.passes_exactly_for_one_document.Goals as goal

pub returns : goal.returns
returns c room xs = (
  λ h. let p = passing_lists_document room xs h in (document_of xs, p.0, p.1, p.2, λ e w l. sym (listing_gives_document e w) ∙ ap document_of l),
  λ d w h l. subst (λ ys. table_test room ys ≡ Ok tt) l (listing_passes room d w h),
)
