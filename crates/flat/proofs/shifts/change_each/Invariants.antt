use Rattle.std.proofs.Common.{◌≡◌, ℕ, ◌<◌, ◌≤◌, length, slice_index_or}
use Rattle.flat.proofs.shifts.change_each.Given as goal

abbrev pub invariant-loop-place : goal.invariant-loop-place
invariant-loop-place g l =
    (length l.table ≡ length l.initial.table)
    × ((m : ℕ) (d : _) → m < l.place → goal.F-post g l.change m (slice_index_or l.initial.table m d) (slice_index_or l.table m d))
    × ((m : ℕ) (d : _) → l.place ≤ m → slice_index_or l.table m d ≡ slice_index_or l.initial.table m d)
