-- Writing a venue: what a fine check says, and the two ways out. Assumes nothing.
use Rattle.std.specs.Prelude.{Ok, Err}
use mathlib.Core.Path.{◌≡◌, refl, sym, ap, ap₂, ◌∙◌}
use mathlib.Core.List.{List, ◌++◌, append_assoc}
use Prim.Native.Nat.{ℕ, ◌+◌, ◌≤◌}
use native.Mathlib.Omega.{arith}
use lib.ListN.{length, drop, length-append}
use borrow.Author.Tests.{ltb-false}
use Rattle.buffers.specs.Over.{over}
use Rattle.buffers.proofs.Over.{over_front, then_over}
use Rattle.cells.specs.declared.Counts.{Counts}
use Rattle.cells.specs.declared.Refusal.{Refusal}
use Rattle.grids.specs.Grid.{size, shape}
use Rattle.cells.specs.Checks.{by_verdict}
use Rattle.cells.proofs.Checks.{fine_first, fine_rest, passed}
use Rattle.grids.proofs.Shapes.{shaped}
use Rattle.records.specs.Venues.{venue_head, cells_from}
use Rattle.records.specs.Writing.{written_version, head_bytes, record_length, write_check, after_writing, WritesVenue}

-- the head is as long as the version says
pub head_length : (n : Counts) → length (head_bytes written_version n) ≡ cells_from written_version
unfolding venue_head
head_length n = refl

-- ---- what a fine check says

pub record Writable (n : Counts) (bytes room : ℕ) : Type 0 where
  pub fine : shape n bytes ≡ Ok tt
  pub bytes_are : bytes ≡ size n
  pub small : bytes ≤ 1073741824
  pub roomy : cells_from written_version + bytes ≤ room

pub writable : (n : Counts) (bytes room : ℕ) → write_check n bytes room ≡ Ok tt → Writable n bytes room
unfolding write_check
writable n bytes room e =
    let f = fine_first (shape n bytes) _ e in
    let s = shaped n bytes f in
    let r : record_length n ≤ room = ltb-false _ _ (passed _ _ (fine_rest (shape n bytes) _ e)) in
    record { fine = f; bytes_are = s.bytes_are; small = omega (arith, s.bytes_are, s.size_most); roomy = omega (arith, s.bytes_are) }

-- ---- the ways out

module _ (n : Counts) (cells entry : List ℕ) where
  pub not_written : (r : Refusal) → write_check n (length cells) (length entry) ≡ Err r → WritesVenue n cells entry (Err r) entry
  not_written r e = record {
    says = sym (ap (by_verdict Err (Ok (record_length n))) e);
    holds = sym (ap (by_verdict (λ s. entry) (after_writing n cells entry)) e);
  }

  -- head and cells stored one behind the other
  filled : {start : ℕ} {m exit : List ℕ} → Writable n (length cells) (length entry) → start ≡ cells_from written_version
      → m ≡ over 0 (head_bytes written_version n) entry → exit ≡ over start cells m → exit ≡ after_writing n cells entry
  filled w e head rest =
      let H = head_bytes written_version n in
      let l = head_length n in
      let long : length (H ++ cells) ≡ record_length n = length-append H cells ∙ omega (arith, l, w.bytes_are) in
      then_over 0 H cells entry (omega (arith, l, w.roomy)) head (omega (arith, l)) rest
      ∙ over_front (H ++ cells) entry
      ∙ ap (λ k. H ++ cells ++ drop k entry) long
      ∙ append_assoc H cells (drop (record_length n) entry)

  pub wrote : {start : ℕ} {m exit : List ℕ} → write_check n (length cells) (length entry) ≡ Ok tt → start ≡ cells_from written_version
      → m ≡ over 0 (head_bytes written_version n) entry → exit ≡ over start cells m → WritesVenue n cells entry (Ok (start + length cells)) exit
  wrote f e head rest =
      let w = writable n (length cells) (length entry) f in
      record {
        says = ap₂ (λ s b. Ok (s + b)) e w.bytes_are ∙ sym (ap (by_verdict Err (Ok (record_length n))) f);
        holds = filled w e head rest ∙ sym (ap (by_verdict (λ r. entry) (after_writing n cells entry)) f);
      }
