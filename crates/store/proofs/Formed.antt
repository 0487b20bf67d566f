-- What a store may hold, against what a document is.
use Rattle.std.proofs.Common.{◌≡◌, refl}
use Rattle.document.specs.Tree.{Forest, nil, node, Sound, OneElement}
use Rattle.store.specs.Kept.{Shaped, AtMostOne, NamesOnce}
use Rattle.store.specs.Statements.{WellFormedIsKept, KeptIsWellFormed}

shaped : (d : Forest) → Sound d → Shaped d × NamesOnce d
shaped nil s = (tt, tt)
shaped (node r as' k f) s =
    let i = shaped k s.3 in
    let j = shaped f s.4 in
    ((s.0, s.1, s.2.0, s.2.1, i.0, j.0), (s.2.2, i.1, j.1))

one_at_most : (d : Forest) → OneElement d → AtMostOne d
one_at_most nil h = tt
one_at_most (node r as' k nil) h = h
one_at_most (node r as' k (node s bs l f)) h = absurd h

pub well_formed_is_kept : WellFormedIsKept
well_formed_is_kept d w =
    let s = shaped d w.sound in
    (record { root = one_at_most d w.root; shaped = s.0; distinct = w.distinct }, s.1)

sound : (d : Forest) → Shaped d → NamesOnce d → Sound d
sound nil s n = tt
sound (node r as' k f) s n = (s.0, s.1, (s.2, s.3, n.0), sound k s.4 n.1, sound f s.5 n.2)

exactly_one : (d : Forest) → AtMostOne d → (d ≡ nil → ⊥) → OneElement d
exactly_one nil h ne = ne refl
exactly_one (node r as' k nil) h ne = h
exactly_one (node r as' k (node s bs l f)) h ne = absurd h

pub kept_is_well_formed : KeptIsWellFormed
kept_is_well_formed d kept ne names = record { root = exactly_one d kept.root ne; sound = sound d kept.shaped names; distinct = kept.distinct }
