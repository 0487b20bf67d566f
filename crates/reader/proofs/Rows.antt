-- The records of a file, by place, and the file of records.
use Rattle.std.proofs.Common.{◌≡◌, ℕ, zero, suc, ◌+◌, ◌*◌, ◌/◌, ◌%◌, ◌<◌, ◌≤◌, List, [], ◌∷◌, ◌++◌, length, get_or, map, take, drop, sym, refl, ap, ◌∙◌, append_assoc, append-nil, arith, length-append, length-drop}
use Rattle.std.proofs.lemmas.List.{drop-drop, take-append-drop, get_or-drop, get_or-map, nil_from_length, drop_at, take_at, length-take-le, drop_more, drop_all}
use Rattle.codec.specs.declared.spelling.Record.{Record}
use Rattle.codec.specs.Codec.{record_of, bytes_of}
use Rattle.codec.proofs.Bytes.{record_back, record_of_front}
use lib.ListN.{length-map}
use Rattle.std.specs.Simd.{first_chunks}
use Rattle.reader.specs.Bytes.{records_in, records, file_of, over, patched, Spelt}

pub length_records_in : (n : ℕ) (bs : List ℕ) → length (records_in n bs) ≡ n
length_records_in zero bs = refl
length_records_in (suc n) bs = ap suc (length_records_in n (drop 16 bs))

pub length_records : (bs : List ℕ) → length (records bs) ≡ length bs / 16
unfolding records
length_records bs = length_records_in (length bs / 16) bs

pub length_bytes_of : (r : Record) → length (bytes_of r) ≡ 16
unfolding bytes_of
length_bytes_of r = refl

pub length_file_of : (rs : List Record) → length (file_of rs) ≡ 16 * length rs
length_file_of [] = refl
length_file_of (r ∷ rs) = omega (arith, length-append (bytes_of r) (file_of rs), length_bytes_of r, length_file_of rs)

-- the file of a file's records is the file
file_of_in : (n : ℕ) (bs : List ℕ) → length bs ≡ 16 * n → ((i : ℕ) → get_or bs i 0 < 256) → file_of (records_in n bs) ≡ bs
file_of_in zero bs e t = sym (nil_from_length bs (omega arith))
file_of_in (suc n) bs e t =
    let rest = file_of_in n (drop 16 bs) (omega (arith, length-drop 16 bs)) (λ i. rw (get_or-drop 16 bs i 0) (t (16 + i))) in
    (λ i. record_back bs (omega arith) t i ++ rest i) ∙ take-append-drop 16 bs

pub file_of_records : (bs : List ℕ) → length bs % 16 ≡ 0 → ((i : ℕ) → get_or bs i 0 < 256) → file_of (records bs) ≡ bs
unfolding records
file_of_records bs e t = file_of_in (length bs / 16) bs (omega arith) t

record_front : (r : Record) (bs : List ℕ) → record_of (bytes_of r) ≡ r → record_of (bytes_of r ++ bs) ≡ r
unfolding record_of bytes_of
record_front r bs e = e

-- the records of the file of records are those
records_in_file : (rs : List Record) → Spelt rs → records_in (length rs) (file_of rs) ≡ rs
records_in_file [] s = refl
records_in_file (r ∷ rs) s =
    let f = record_front r (file_of rs) s.0 in
    let g : drop 16 (bytes_of r ++ file_of rs) ≡ file_of rs = drop_at (bytes_of r) (file_of rs) 16 (length_bytes_of r) in
    rw (f, g, records_in_file rs s.1)

pub records_of_file : (rs : List Record) → Spelt rs → records (file_of rs) ≡ rs
unfolding records
records_of_file rs s =
    let e : length (file_of rs) / 16 ≡ length rs = omega (arith, length_file_of rs) in
    rw e (records_in_file rs s)

pub spelt-++ : (xs ys : List Record) → Spelt xs → Spelt ys → Spelt (xs ++ ys)
spelt-++ [] ys p q = q
spelt-++ (x ∷ xs) ys p q = (p.0, spelt-++ xs ys p.1 q)

pub file_of-++ : (xs ys : List Record) → file_of (xs ++ ys) ≡ file_of xs ++ file_of ys
file_of-++ [] ys = refl
file_of-++ (x ∷ xs) ys = rw (file_of-++ xs ys) (sym (append_assoc (bytes_of x) (file_of xs) (file_of ys)))

-- a patch right behind a patch is one patch
pub patch_patch : {X : Type 0} (table xs ys : List X) (at : ℕ) → at + length xs ≤ length table → patched (patched table at xs) (at + length xs) ys ≡ patched table at (xs ++ ys)
patch_patch table xs ys at h =
    let front = take at table ++ xs in
    let behind = drop (at + length xs) table in
    let whole : patched table at xs ≡ front ++ behind = sym (append_assoc (take at table) xs behind) in
    let long : length front ≡ at + length xs = omega (arith, length-append (take at table) xs, length-take-le at table (omega arith)) in
    let t : take (at + length xs) (patched table at xs) ≡ front = ap (take (at + length xs)) whole ∙ take_at front behind (at + length xs) long in
    let d : drop (at + length xs + length ys) (patched table at xs) ≡ drop (at + length (xs ++ ys)) table =
    sym (drop-drop (length ys) (at + length xs) (patched table at xs))
    ∙ ap (λ l. drop (length ys) (drop (at + length xs) l)) whole
    ∙ ap (drop (length ys)) (drop_at front behind (at + length xs) long)
    ∙ drop-drop (length ys) (at + length xs) table
    ∙ ap (λ m. drop m table) (omega (arith, length-append xs ys)) in
    (λ i. t i ++ (ys ++ d i)) ∙ append_assoc (take at table) xs (ys ++ drop (at + length (xs ++ ys)) table)
    ∙ ap (λ l. take at table ++ l) (sym (append_assoc xs ys (drop (at + length (xs ++ ys)) table)))

pub patch_none : {X : Type 0} (table : List X) (at : ℕ) → patched table at [] ≡ table
patch_none table at = ap (λ m. take at table ++ drop m table) (omega arith) ∙ take-append-drop at table

pub patch_front : {X : Type 0} (table xs : List X) → patched table 0 xs ≡ over xs table
patch_front table xs = ap (λ m. xs ++ drop m table) (omega arith)

-- more records written right behind those that are
pub file_more : (table now' next : List ℕ) (at place : ℕ) (done chunk : List Record) → now' ≡ patched table at (file_of done) → place ≡ at + 16 * length done → place ≤ length table
    → next ≡ patched now' place (file_of chunk) → next ≡ patched table at (file_of (done ++ chunk))
file_more table now' next at place done chunk e p h f =
    let q : place ≡ at + length (file_of done) = omega (arith, length_file_of done) in
    f ∙ (λ i. patched (e i) (q i) (file_of chunk)) ∙ patch_patch table (file_of done) (file_of chunk) at (omega arith) ∙ ap (patched table at) (sym (file_of-++ done chunk))

pub file_of_one : (r : Record) → file_of (r ∷ []) ≡ bytes_of r
file_of_one r = append-nil (bytes_of r)

-- sixteen bytes each, and the records that they spell
pub chunks_spell : (n : ℕ) (bs : List ℕ) → map record_of (first_chunks 16 n bs) ≡ records_in n bs
chunks_spell zero bs = refl
chunks_spell (suc n) bs = rw (record_of_front bs, chunks_spell n (drop 16 bs))

pub raw_at : (raws : List (List ℕ)) (bs : List ℕ) (k : ℕ) (e : List ℕ) (r : Record) → map record_of raws ≡ records bs → k < length bs / 16 → r ≡ record_of (get_or raws k e)
    → (d : Record) → r ≡ get_or (records bs) k d
raw_at raws bs k e r same h at d =
    let long : length raws ≡ length bs / 16 = sym (length-map raws record_of) ∙ ap length same ∙ length_records bs in
    at ∙ sym (get_or-map record_of raws k e d (omega arith)) ∙ ap (λ rs. get_or rs k d) same

-- the records from a place on begin with the one there
pub next_record : (bs : List ℕ) (k : ℕ) (r : Record) → k < length bs / 16 → ((d : Record) → r ≡ get_or (records bs) k d) → drop k (records bs) ≡ r ∷ drop (k + 1) (records bs)
next_record bs k r h e = drop_more (records bs) k r (omega (arith, length_records bs)) ∙ ap (λ x. x ∷ drop (k + 1) (records bs)) (sym (e r))

pub no_record : (bs : List ℕ) (k : ℕ) → length bs / 16 ≤ k → drop k (records bs) ≡ []
no_record bs k h = drop_all k (records bs) (omega (arith, length_records bs))
