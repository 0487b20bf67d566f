-- Tables to which changes are added one list behind another.
use Rattle.std.proofs.Common.{◌≡◌, ◌+◌, List, [], ◌∷◌, ◌++◌, set, sym, refl, ap, ◌∙◌, subst}
use Rattle.records.specs.declared.operations.Operation.{Operation}
use Rattle.document.specs.Tree.{nil}
use Rattle.changes.specs.Changes.{Change}
use Rattle.reduce.specs.declared.tables.Tables.{Tables}
use Rattle.reduce.specs.Output.{Output, held, with_changes, SameTables, Pushed, Grown, RoomFor}
use Rattle.reduce.proofs.Adding.{with_changes-++, plain_change, adds_then, room_first, room_then}

pub same_then : (t t1 t2 : Tables) → SameTables t t1 → SameTables t1 t2 → SameTables t t2
same_then t t1 t2 a b = record { operations = b.operations ∙ a.operations; nodes = b.nodes ∙ a.nodes }

pub grown_none : (t : Tables) → Grown t t []
grown_none t = record { same = record { operations = refl; nodes = refl }; adds = refl }

pub grown_as : (t t1 : Tables) (a b : List Change) → a ≡ b → Grown t t1 a → Grown t t1 b
grown_as t t1 a b e = subst (Grown t t1) e

pub grown_then : (t t1 t2 : Tables) (a b : List Change) → Grown t t1 a → Grown t1 t2 b → Grown t t2 (a ++ b)
grown_then t t1 t2 a b g h = record {
  same = same_then t t1 t2 g.same h.same;
  adds = adds_then t.operations.now t.nodes.now t.used t1.operations.now t2.operations.now t1.nodes.now t2.nodes.now t1.used t2.used a b g.adds h.adds;
}

pub fits_first : (t : Tables) (a b : List Change) → RoomFor t.used (a ++ b) → RoomFor t.used a
fits_first t = room_first t.operations.now t.nodes.now t.used

pub fits_then : (t t1 : Tables) (a b : List Change) → Grown t t1 a → RoomFor t.used (a ++ b) → RoomFor t1.used b
fits_then t t1 a b g = room_then t.operations.now t.nodes.now t.used t1.operations.now t1.nodes.now t1.used a b g.adds

-- one operation without nodes
pub grown_plain : (t t1 : Tables) (o : Change) (p : Operation) → o.nodes ≡ nil → p ≡ record { target = o.target; code = o.code; count = 0; name = o.name; value = o.value } → Pushed t t1 p
    → Grown t t1 (o ∷ [])
grown_plain t t1 o p z e h = record {
  same = h.same;
  adds = h.left ∙ plain_change t.operations.now t.nodes.now t.used o z _ (t.used.operations + 1) (ap (set t.operations.now t.used.operations) e) refl;
}

-- a loop that adds all changes, with the rest of them still to come
pub record Growing (t0 t : Tables) (rest all : List Change) : Type 0 where
  pub same : SameTables t0 t
  pub fits : RoomFor t.used rest
  pub adds : with_changes (held t) rest ≡ with_changes (held t0) all

pub growing_begins : (t : Tables) (rest all : List Change) → rest ≡ all → RoomFor t.used all → Growing t t rest all
growing_begins t rest all e f = record { same = record { operations = refl; nodes = refl }; fits = subst (RoomFor t.used) (sym e) f; adds = ap (with_changes (held t)) e }

pub growing_on : (t0 t t1 : Tables) (rest all a b : List Change) → rest ≡ a ++ b → Growing t0 t rest all → Grown t t1 a → Growing t0 t1 b all
growing_on t0 t t1 rest all a b e g h = record {
  same = same_then t0 t t1 g.same h.same;
  fits = fits_then t t1 a b h (subst (RoomFor t.used) e g.fits);
  adds = ap (λ (s : Output). with_changes s b) h.adds ∙ (sym (with_changes-++ (held t) a b) ∙ (ap (with_changes (held t)) (sym e) ∙ g.adds));
}

pub growing_ends : (t0 t : Tables) (rest all : List Change) → rest ≡ [] → Growing t0 t rest all → Grown t0 t all
growing_ends t0 t rest all e g = record { same = g.same; adds = ap (with_changes (held t)) (sym e) ∙ g.adds }
