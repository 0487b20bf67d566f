-- A store without rows.
use Rattle.std.proofs.Common.{◌≡◌, List, refl, arith}
use Rattle.document.specs.Tree.{nil}
use Rattle.document.specs.Listing.{listing}
use Rattle.document.specs.Table.{document_of}
use Rattle.ordered.specs.declared.entries.RowOf.{RowOf}
use Rattle.store.specs.Kept.{Kept}
use Rattle.flat.specs.declared.rows.FlatRow.{FlatRow}
use Rattle.flat.specs.Means.{nodes, means, Stored}

pub empty_means : (R : List FlatRow) → means R 0 ≡ nil
unfolding means document_of
empty_means R = refl

empty_kept : Kept nil
empty_kept = record { root = tt; shaped = tt; distinct = λ t. omega arith }

empty_listed : (R : List FlatRow) → listing nil ≡ nodes R 0
unfolding listing
empty_listed R = refl

pub empty_stored : (R : List FlatRow) (X : List RowOf) → Stored R X 0
empty_stored R X =
    record {
      kept = rw (empty_means R) empty_kept;
      listed = rw (empty_means R) (empty_listed R);
      laid = record {
        backward = λ k a b. absurd (omega arith);
        parented = λ k a b. absurd (omega arith);
        sized = λ i a. absurd (omega arith);
        inside = λ i k a b c. absurd (omega arith);
        outside = λ i k a b c d. absurd (omega arith);
      };
      indexed = record { ascending = λ i j a b. absurd (omega arith); leading = λ k a. absurd (omega arith); reaching = λ i a. absurd (omega arith) };
    }
