-- The document that a sheet lists.
use Rattle.document.specs.Tree.{Forest}
use Rattle.document.specs.Table.{document_of}
use Rattle.sheet.specs.declared.sheet.Sheet.{Sheet}

abbrev pub document : Sheet → Forest
document s = document_of s.nodes.now
