-- A venue written is read back, and what reading accepts is what writing gives. Assumes nothing.
use Rattle.std.specs.Prelude.{Result, Ok, Err}
use mathlib.Core.Path.{◌≡◌, refl, sym, ap, ap₂, ◌∙◌, subst}
use mathlib.Core.Bool.{true}
use mathlib.Core.List.{List, [], ◌∷◌, ◌++◌, append_assoc, append-nil}
use Prim.Native.Nat.{ℕ, ◌+◌, ◌-◌, ◌≤◌}
use native.Mathlib.Nat.{add-sub_cancel_left}
use native.Mathlib.Omega.{arith}
use lib.ListN.{length, take, drop, length-append, length-take, length-drop, drop_of_length-le}
use lib.Seq.{drop-cons, take-add, take_at, drop_at}
use borrow.Author.Tests.{ne_eqb, le-ltb, eqb-true}
use Rattle.buffers.specs.Numbers.{four, AllBytes}
use Rattle.buffers.proofs.Numbers.{two_read, four_read, joined, two_back, four_back}
use Rattle.cells.specs.declared.Refusal.{Refusal}
use Rattle.cells.specs.declared.Counts.{Counts}
use Rattle.cells.specs.Checks.{by_verdict}
use Rattle.cells.proofs.Checks.{by_fine}
use Rattle.grids.specs.Grid.{size, shape}
use Rattle.grids.proofs.Shapes.{shaped}
use Rattle.records.specs.declared.venues.Venue.{Venue}
use Rattle.records.specs.Heads.{length_field, announced, version_of, whole_check}
use Rattle.records.specs.Venues.{venue_version, venue_head, cells_from, counts_from, counts_at, venue_in, venue_check, venue_read, venue_cells}
use Rattle.records.proofs.HeadTests.{VenueWhole, venue_accepted, part_within, head_least}
use Rattle.records.specs.Writing.{written_version, count_bytes, head_bytes, record_length, write_check, after_writing, WritesVenue}
use Rattle.records.proofs.WriteTests.{head_length, writable}

-- the counts are those of their bytes
counts_back : (s : List ℕ) → AllBytes s → (i : ℕ) → i + 6 ≤ length s → take 6 (drop i s) ≡ count_bytes (counts_at s i)
counts_back s bytes i h =
    joined s bytes i 4 2
    ∙ ap₂ (λ a b. a ++ b)
    (joined s bytes i 2 2 ∙ ap₂ (λ a b. a ++ b) (two_back s bytes i (omega arith)) (two_back s bytes (i + 2) (omega arith)))
    (two_back s bytes (i + 4) (omega arith))

-- ---- reading

-- a whole record of a known version, long enough for its head, is judged by its shape
pub judged : (s : List ℕ) → length_field + announced s ≤ length s → venue_version (version_of s) ≡ true → venue_head (version_of s) ≤ announced s
    → venue_check s ≡ shape (venue_in s).counts (venue_in s).long
unfolding whole_check venue_check
judged s there known head =
    let least = head_least (version_of s) in
    rw (
      le-ltb (length s) length_field (omega arith),
      ne_eqb (announced s) 0 (λ e. omega arith),
      le-ltb (length s) (length_field + announced s) there,
      known,
      le-ltb (announced s) (venue_head (version_of s)) head,
    )

-- the venue that a written record holds
abbrev pub venue_of : Counts → Venue
venue_of n = record { counts = n; start = cells_from written_version; long = size n }

module _ (n : Counts) (cells rest : List ℕ) (fine : shape n (length cells) ≡ Ok tt) where
  long_is : announced (head_bytes written_version n ++ (cells ++ rest)) ≡ venue_head written_version + size n
  long_is = four_read (venue_head written_version + size n)

  in_is : venue_in (head_bytes written_version n ++ (cells ++ rest)) ≡ venue_of n
  unfolding venue_head
  in_is =
      rw (
        four_read (venue_head written_version + size n),
        two_read n.nx,
        two_read n.ny,
        two_read n.nz,
        add-sub_cancel_left (venue_head written_version) (size n),
      )

  all_there : length_field + announced (head_bytes written_version n ++ (cells ++ rest)) ≤ length (head_bytes written_version n ++ (cells ++ rest))
  all_there =
      omega (
        arith,
        long_is,
        head_length n,
        length-append (head_bytes written_version n) (cells ++ rest),
        length-append cells rest,
        (shaped n (length cells) fine).bytes_are,
      )

  -- what was written is read back, whatever follows
  pub read_back : venue_read (head_bytes written_version n ++ (cells ++ rest)) ≡ Ok (venue_of n)
  unfolding venue_read venue_version
  read_back =
      let s = head_bytes written_version n ++ (cells ++ rest) in
      let check : venue_check s ≡ Ok tt =
      judged s all_there refl (omega (arith, long_is))
      ∙ ap (λ (v : Venue). shape v.counts v.long) in_is
      ∙ ap (shape n) (sym (shaped n (length cells) fine).bytes_are) ∙ fine in
      ap₂ (λ v u. by_verdict Err (Ok u) v) check in_is

  pub cells_back : venue_cells (head_bytes written_version n ++ (cells ++ rest)) ≡ cells
  unfolding venue_cells
  cells_back =
      rw read_back
      (ap (take (size n)) (drop_at (head_bytes written_version n) (cells ++ rest) (cells_from written_version) (head_length n))
      ∙ take_at cells rest (size n) (shaped n (length cells) fine).bytes_are)

-- ---- writing what was read

-- the head of a record of the written version, by its bytes
head_back : (s : List ℕ) → AllBytes s → cells_from written_version ≤ length s
    → take (cells_from written_version) s ≡ (four (announced s) ++ (version_of s ∷ [])) ++ count_bytes (counts_at s (counts_from written_version))
unfolding venue_head
head_back s bytes h =
    joined s bytes 0 5 6
    ∙ ap₂ (λ a b. a ++ b)
    (joined s bytes 0 4 1 ∙ ap₂ (λ a b. a ++ b) (four_back s bytes 0 (omega arith)) (ap (take 1) (drop-cons s 4 0 (omega arith))))
    (counts_back s bytes 5 (omega arith))

version_one : (version : ℕ) → venue_version version ≡ true → version ≡ written_version
unfolding venue_version
version_one version e = eqb-true version written_version e

-- the bytes of an accepted record are its head and its cells
pub record_back : (s : List ℕ) (v : Venue) → AllBytes s → venue_read s ≡ Ok v
    → head_bytes written_version v.counts ++ venue_cells s ≡ take (length_field + announced s) s
unfolding venue_cells
record_back s v bytes e =
    let (w, f) = venue_accepted s v e in
    subst (λ (u : Venue). head_bytes written_version u.counts ++ venue_cells s ≡ take (length_field + announced s) s) f
    (rw (e, sym f) (back w (version_one (version_of s) w.version)))
  where
    back : VenueWhole s → version_of s ≡ written_version
        → head_bytes written_version (venue_in s).counts ++ take (venue_in s).long (drop (venue_in s).start s) ≡ take (length_field + announced s) s
    back w one =
        let version = version_of s in
        let n = (venue_in s).counts in
        let long = (venue_in s).long in
        let there = w.there in
        let head = w.head in
        let total : cells_from version + long ≡ length_field + announced s = omega arith in
        let length_is : announced s ≡ venue_head written_version + size n = omega (arith, (shaped n long w.shaped).bytes_are, ap venue_head one) in
        let by_bytes : take (cells_from version) s ≡ (four (announced s) ++ (version ∷ [])) ++ count_bytes n =
        subst (λ (u : ℕ). take (cells_from u) s ≡ (four (announced s) ++ (version ∷ [])) ++ count_bytes (counts_at s (counts_from u))) (sym one)
        (head_back s bytes (omega (arith, ap venue_head one))) in
        let by_values : take (cells_from version) s ≡ head_bytes written_version n =
        by_bytes ∙ ap₂ (λ a b. (four a ++ (b ∷ [])) ++ count_bytes n) length_is one in
        sym
        (ap (λ k. take k s) (sym total) ∙ take-add (cells_from version) long s
        ∙ ap (λ a. a ++ take long (drop (cells_from version) s)) by_values)

-- ---- the contract of writing, taken apart

-- where bytes were written, the shape was fine, and the front is the head and the cells
pub record Front (n : Counts) (cells : List ℕ) (k : ℕ) (exit : List ℕ) : Type 0 where
  pub fine : shape n (length cells) ≡ Ok tt
  pub front : take k exit ≡ head_bytes written_version n ++ cells

pub front_written : (n : Counts) (cells entry exit : List ℕ) (k : ℕ) → WritesVenue n cells entry (Ok k) exit → Front n cells k exit
front_written n cells entry exit k c =
    let H = head_bytes written_version n in
    let (f, same) = by_fine Err (write_check n (length cells) (length entry)) (Ok (record_length n))
    (λ r no. let z : ◌≡◌ {A = ℕ} 0 1 = cc no in omega arith) (sym c.says) in
    let count : record_length n ≡ k = cc same in
    let w = writable n (length cells) (length entry) f in
    let rest = drop (record_length n) entry in
    let all : exit ≡ H ++ cells ++ rest = c.holds ∙ ap (by_verdict (λ r. entry) (after_writing n cells entry)) f ∙ sym (append_assoc H cells rest) in
    let long : length (H ++ cells) ≡ k = length-append H cells ∙ omega (arith, head_length n, w.bytes_are, count) in
    record { fine = w.fine; front = ap (take k) all ∙ take_at (H ++ cells) rest k long }

-- an accepted record fits where it came from
pub record Fits (s : List ℕ) (v : Venue) : Type 0 where
  pub fine : shape v.counts (length (venue_cells s)) ≡ Ok tt
  pub total : record_length v.counts ≡ length_field + announced s

pub record_fits : (s : List ℕ) (v : Venue) → venue_read s ≡ Ok v → Fits s v
unfolding venue_cells
record_fits s v e =
    let (w, f) = venue_accepted s v e in
    let within = part_within s v e in
    let long : length (venue_cells s) ≡ v.long = rw e (simp (length-take, length-drop) (omega arith)) in
    let fine : shape v.counts v.long ≡ Ok tt = subst (λ (u : Venue). shape u.counts u.long ≡ Ok tt) f w.shaped in
    let one = ap venue_head (version_one (version_of s) w.version) in
    let head = w.head in
    let size_is : announced s - venue_head (version_of s) ≡ size v.counts = ap (λ (u : Venue). u.long) f ∙ (shaped v.counts v.long fine).bytes_are in
    record { fine = ap (shape v.counts) long ∙ fine; total = omega arith }

-- written into room that is just enough, it is the same bytes
pub same_bytes : (s : List ℕ) (v : Venue) (entry exit : List ℕ) (w : Result ℕ Refusal) → AllBytes s → venue_read s ≡ Ok v →
    length entry ≡ length_field + announced s
    → WritesVenue v.counts (venue_cells s) entry w exit → (w ≡ Ok (length_field + announced s)) × (exit ≡ take (length_field + announced s) s)
unfolding write_check
same_bytes s v entry exit w bytes e room c =
    let n = v.counts in
    let fits = record_fits s v e in
    let H = head_bytes written_version n in
    let check : write_check n (length (venue_cells s)) (length entry) ≡ Ok tt =
    rw (fits.fine, le-ltb (length entry) (record_length n) (omega (arith, fits.total))) in
    let none : drop (record_length n) entry ≡ [] = drop_of_length-le entry {i = record_length n} (omega (arith, fits.total)) in (
      c.says ∙ ap (by_verdict Err (Ok (record_length n))) check ∙ ap Ok fits.total,
      c.holds ∙ ap (by_verdict (λ r. entry) (after_writing n (venue_cells s) entry)) check ∙ ap (λ l. H ++ (venue_cells s ++ l)) none
          ∙ ap (λ l. H ++ l) (append-nil (venue_cells s)) ∙ record_back s v bytes e,
    )
