-- The number, layer and place of every refusal.
use Rattle.std.specs.Prelude.{ℕ}
use Rattle.faults.specs.declared.Report.{Report}
use Rattle.faults.specs.declared.FileFault as file
use Rattle.faults.specs.declared.FileFault.{FileFault}
use Rattle.faults.specs.declared.ListFault as list
use Rattle.faults.specs.declared.ListFault.{ListFault}
use Rattle.faults.specs.declared.DocumentFault as document
use Rattle.faults.specs.declared.DocumentFault.{DocumentFault}
use Rattle.faults.specs.declared.StoreFault as store
use Rattle.faults.specs.declared.StoreFault.{StoreFault}
use Rattle.faults.specs.declared.BookFault as book
use Rattle.faults.specs.declared.BookFault.{BookFault}
use Rattle.faults.specs.declared.Fault.{Fault}
use Rattle.faults.specs.declared.Fault.TheVariants.{File, List, Document, Store}

abbrev pub report : ℕ → ℕ → ℕ → Report
report n l p = record { number = n; layer = l; place = p }

abbrev pub told_file : FileFault → Report
told_file (file.TheVariants.Length p) = report 1 1 p
told_file (file.TheVariants.Structure p) = report 2 1 p
told_file (file.TheVariants.Misformed p) = report 3 1 p
told_file file.TheVariants.TableShort = report 22 1 0

abbrev pub told_list : ListFault → Report
told_list (list.TheVariants.Structure p) = report 2 2 p
told_list (list.TheVariants.Misformed p) = report 3 2 p
told_list (list.TheVariants.IdentifierTaken p) = report 8 2 p
told_list (list.TheVariants.NoTrees p) = report 9 2 p
told_list (list.TheVariants.NodesUnsuited p) = report 10 2 p
told_list (list.TheVariants.TargetAbsent p) = report 11 2 p
told_list (list.TheVariants.TargetUnsuited p) = report 12 2 p
told_list (list.TheVariants.SecondOfCode p) = report 13 2 p
told_list (list.TheVariants.NameTaken p) = report 14 2 p
told_list list.TheVariants.NoRoom = report 15 2 0

abbrev pub told_document : DocumentFault → Report
told_document document.TheVariants.ScratchShort = report 21 3 0
told_document (document.TheVariants.Misformed p) = report 3 3 p
told_document (document.TheVariants.IdentifierTwice p) = report 4 3 p
told_document (document.TheVariants.OutOfOrder p) = report 5 3 p
told_document (document.TheVariants.NameTwice p) = report 6 3 p
told_document (document.TheVariants.NoRoom p) = report 7 3 p

abbrev pub told_store : StoreFault → Report
told_store store.TheVariants.Misformed = report 3 4 0
told_store store.TheVariants.Known = report 8 4 0
told_store store.TheVariants.Absent = report 11 4 0
told_store store.TheVariants.Unsuited = report 12 4 0
told_store store.TheVariants.Full = report 15 4 0

abbrev pub told_book : BookFault → Report
told_book book.TheVariants.TableShort = report 22 5 0

abbrev pub told : Fault → Report
told (File f) = told_file f
told (List f) = told_list f
told (Document f) = told_document f
told (Store f) = told_store f
