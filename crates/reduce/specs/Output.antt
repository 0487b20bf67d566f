-- Two tables that a list is written into, and how far they are used.
use Rattle.std.specs.Prelude.{◌≡◌, ℕ, ◌+◌, ◌^◌, ◌<◌, Bool, cond, ◌||◌, List, [], ◌∷◌, ◌++◌, length, drop, Ok, Err, Result, nat_lt, slice_set}
use Rattle.reduce.specs.declared.tables.TableFault.{TableFault}
use Rattle.reduce.specs.declared.tables.TableFault.TheVariants.{TableShort}
use Rattle.records.specs.declared.nodes.Node.{Node}
use Rattle.records.specs.declared.operations.Code.{Code}
use Rattle.records.specs.declared.operations.Operation.{Operation}
use Rattle.document.specs.Listing.{rows}
use Rattle.changes.specs.Changes.{Change}
use Rattle.changes.specs.Tables.{operation_rows, node_rows}
use Rattle.walk.specs.Written.{written}
use Rattle.reduce.specs.declared.tables.Tally.{Tally}
use Rattle.reduce.specs.declared.tables.Tables.{Tables}

pub record Output : Type 0 where
  pub operations : List Operation
  pub nodes : List Node
  pub used : Tally

abbrev pub output : List Operation → List Node → Tally → Output
output os ns t = record { operations = os; nodes = ns; used = t }

abbrev pub tally : ℕ → ℕ → Tally
tally n m = record { operations = n; nodes = m }

-- an operation without nodes, name and value
abbrev pub bare : ℕ → Code → Operation
bare t c = record { target = t; code = c; count = 0; name = 0; value = 0 }

abbrev pub operation_row : Change → Operation
operation_row o = record { target = o.target; code = o.code; count = length (rows 0 o.nodes); name = o.name; value = o.value }

-- one change more; what passes the end of a table is counted, and not written
abbrev pub with_change : Output → Change → Output
with_change s o =
    output (written s.operations s.used.operations (operation_row o ∷ [])) (written s.nodes s.used.nodes (rows 0 o.nodes))
    (tally (s.used.operations + 1) (s.used.nodes + length (rows 0 o.nodes)))

abbrev pub with_changes : Output → List Change → Output
with_changes s [] = s
with_changes s (o ∷ l) = with_changes (with_change s o) l

-- the tables and the tally after some changes are added
abbrev pub Adds : List Operation → List Node → Tally → List Operation → List Node → Tally → List Change → Type 0
Adds os ns t os' ns' t' l = output os' ns' t' ≡ with_changes (output os ns t) l

-- The tables of a writer, and what it does to them: the references stay where they are
abbrev pub held : Tables → Output
held t = output t.operations.now t.nodes.now t.used

pub record SameTables (t t' : Tables) : Type 0 where
  pub operations : t'.operations.ghost_name ≡ t.operations.ghost_name
  pub nodes : t'.nodes.ghost_name ≡ t.nodes.ghost_name

pub record Pushed (t t' : Tables) (o : Operation) : Type 0 where
  pub same : SameTables t t'
  pub left : held t' ≡ output (slice_set t.operations.now t.used.operations o) t.nodes.now (tally (t.used.operations + 1) t.used.nodes)

pub record Copied (t t' : Tables) (xs : List Node) : Type 0 where
  pub same : SameTables t t'
  pub left : held t' ≡ output t.operations.now (written t.nodes.now t.used.nodes xs) (tally t.used.operations (t.used.nodes + length xs))

-- some changes are added
pub record Grown (t t' : Tables) (l : List Change) : Type 0 where
  pub same : SameTables t t'
  pub adds : Adds t.operations.now t.nodes.now t.used t'.operations.now t'.nodes.now t'.used l

-- the numbers stay small
abbrev pub RoomFor : Tally → List Change → Type 0
RoomFor t l = (t.operations + length l < 2 ^ 32) × (t.nodes + length (node_rows l) < 2 ^ 32)

-- a list is written where both tables have room for it
abbrev pub too_short : List Operation → List Node → List Change → Bool
too_short os ns l = nat_lt (length os) (length (operation_rows l)) || nat_lt (length ns) (length (node_rows l))

abbrev pub write_says : List Operation → List Node → List Change → Result Tally TableFault
write_says os ns l = cond (too_short os ns l) (Err TableShort) (Ok (tally (length (operation_rows l)) (length (node_rows l))))

abbrev pub operations_after : List Operation → List Node → List Change → List Operation
operations_after os ns l = cond (too_short os ns l) os (operation_rows l ++ drop (length (operation_rows l)) os)

abbrev pub nodes_after : List Operation → List Node → List Change → List Node
nodes_after os ns l = cond (too_short os ns l) ns (node_rows l ++ drop (length (node_rows l)) ns)
