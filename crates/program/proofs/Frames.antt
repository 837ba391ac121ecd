-- What a step says of a frame is what the definition says of all that is left of the input. Assumes nothing.
use Rattle.std.specs.Prelude.{Err, Some, None}
use mathlib.Core.Path.{◌≡◌, refl, sym, ap, ◌∙◌}
use mathlib.Core.Bool.{Bool, true, false, cond, false≢true}
use mathlib.Core.List.{List, [], ◌++◌}
use Prim.Native.Nat.{ℕ, ◌+◌, ◌≤◌, ◌<◌}
use native.Mathlib.Omega.{arith}
use lib.Dec.{ltb, leb, eqb}
use lib.ListN.{length, take, drop, length-append, length-take, length-drop, take-append-drop}
use lib.Seq.{take_all}
use borrow.Author.Tests.{le-ltb, ltb-false, ne_eqb, eqb-false, leb-true, leb-false}
use Rattle.cells.specs.declared.Counts.{Counts}
use Rattle.cells.specs.declared.Refusal.{Refusal}
use Rattle.cells.specs.declared.Refusal.TheVariants.{Room, Record}
use Rattle.records.specs.Heads.{length_field, announced}
use Rattle.records.specs.Venues.{venue_read, venue_cells}
use Rattle.records.specs.Pairs.{pair_read}
use Rattle.records.proofs.Following.{same_announced, venue_unread, pair_unread, cells_unread}
use Rattle.program.specs.Program.{venue_most, pair_most, beyond, venue_refused, said_of_venue, venue_said, pair_refused}
use Rattle.program.specs.Program.{said_of_pair, pair_said, after_record, frame_length, frame, after_frame}

-- ---- the length that stands at the front

module _ (most : ℕ) (s : List ℕ) where
  -- where it is beyond the most, its four bytes are there
  pub beyond_four : beyond most s ≡ true → length_field ≤ length s
  unfolding beyond
  beyond_four = go (ltb (length s) length_field) refl
    where
      go : (b : Bool) → ltb (length s) length_field ≡ b → cond b false (ltb most (announced s)) ≡ true → length_field ≤ length s
      go true e h = absurd (false≢true h)
      go false e h = ltb-false (length s) length_field e

  -- where they are, its number decides
  pub beyond_is : length_field ≤ length s → beyond most s ≡ ltb most (announced s)
  unfolding beyond
  beyond_is four = rw (le-ltb (length s) length_field four)

-- bytes behind the length do not change it
pub front_announces : (t : ℕ) (s : List ℕ) → length_field ≤ t → length_field ≤ length s → announced (take t s) ≡ announced s
front_announces t s h four =
    let enough : length_field ≤ length (take t s) = simp length-take (omega arith) in
    sym (same_announced (take t s) (drop t s) enough) ∙ ap announced (take-append-drop t s)

-- bytes behind a whole record do not change it
abbrev Unread : {A : Type 0} → (List ℕ → A) → Type 0
Unread f = (x rest : List ℕ) → length x ≡ length_field + announced x → f (x ++ rest) ≡ f x

beyond_unread : (most : ℕ) → Unread (beyond most)
beyond_unread most x rest exact =
    let four : length_field ≤ length x = omega arith in
    let longer : length_field ≤ length (x ++ rest) = omega (arith, length-append x rest) in
    beyond_is most (x ++ rest) longer ∙ ap (ltb most) (same_announced x rest four) ∙ sym (beyond_is most x four)

-- ---- frames

module _ (most : ℕ) (s : List ℕ) where
  -- where the length is beyond the most, the frame's is too
  frame_beyond : beyond most s ≡ true → beyond most (frame most s) ≡ true
  unfolding frame_length
  frame_beyond h =
      let four = beyond_four most s h in
      let enough : length_field ≤ length (take length_field s) = simp length-take (omega arith) in
      rw h (beyond_is most (take length_field s) enough ∙ ap (ltb most) (front_announces length_field s (omega arith) four) ∙ sym (beyond_is most s four) ∙ h)

  -- and what is left after it is what is left after the record, where it is not
  pub after_same : beyond most s ≡ false → after_frame most s ≡ after_record s
  unfolding frame_length
  after_same h = rw h

  -- then what bytes behind a record do not change is told by the frame
  pub framed : {A : Type 0} (f : List ℕ → A) → Unread f → beyond most s ≡ false → f (frame most s) ≡ f s
  unfolding frame_length
  framed f unread h = rw h (go (length_field + announced s) refl (leb (length_field + announced s) (length s)) refl)
    where
      go : (long : ℕ) → long ≡ length_field + announced s → (b : Bool) → leb long (length s) ≡ b → f (take long s) ≡ f s
      go long is true e =
          let there = leb-true long (length s) e in
          let same = front_announces long s (omega arith) (omega arith) in
          let exact : length (take long s) ≡ length_field + announced (take long s) = simp length-take (omega arith) in
          sym (unread (take long s) (drop long s) exact) ∙ ap f (take-append-drop long s)
      go long is false e = let short = leb-false long (length s) e in ap f (take_all long s (omega arith))

-- ---- the venue

module _ (s : List ℕ) where
  venue_beyond : beyond venue_most s ≡ true → venue_said s ≡ venue_refused Room
  unfolding venue_said
  venue_beyond h = rw h

  venue_within : beyond venue_most s ≡ false → venue_said s ≡ said_of_venue (venue_read s)
  unfolding venue_said
  venue_within h = rw h

-- by the venue that is in the frame, or why there is none
pub venue_said_of : (s : List ℕ) → venue_said s ≡ said_of_venue (cond (beyond venue_most s) (Err Room) (venue_read s))
unfolding venue_said
venue_said_of s = go (beyond venue_most s)
  where
    go : (b : Bool) → cond b (venue_refused Room) (said_of_venue (venue_read s)) ≡ said_of_venue (cond b (Err Room) (venue_read s))
    go true = refl
    go false = refl

said_unread : Unread venue_said
unfolding venue_said
said_unread x rest exact = rw (beyond_unread venue_most x rest exact, venue_unread x rest exact)

pub venue_framed : (s : List ℕ) → venue_said (frame venue_most s) ≡ venue_said s
venue_framed s = go (beyond venue_most s) refl
  where
    go : (b : Bool) → beyond venue_most s ≡ b → venue_said (frame venue_most s) ≡ venue_said s
    go true h = venue_beyond (frame venue_most s) (frame_beyond venue_most s h) ∙ sym (venue_beyond s h)
    go false h = framed venue_most s venue_said said_unread h

-- a venue after which pairs come is not beyond the most
pub venue_on : (s : List ℕ) (k : ℕ) → (venue_said s).next ≡ Some k → beyond venue_most s ≡ false
unfolding venue_said
venue_on s k = go (beyond venue_most s)
  where
    go : (b : Bool) → (cond b (venue_refused Room) (said_of_venue (venue_read s))).next ≡ Some k → b ≡ false
    go true h = absurd (let z : ◌≡◌ {A = ℕ} 0 1 = cc in omega arith)
    go false h = refl

-- and is read
pub venue_taken : (s : List ℕ) (r : Refusal) (k : ℕ) → (venue_said s).next ≡ Some k → venue_read s ≡ Err r → ⊥
venue_taken s r k h no_venue =
    let e : Some k ≡ None = sym h ∙ ap (λ x. x.next) (venue_within s (venue_on s k h) ∙ ap said_of_venue no_venue) in
    let z : ◌≡◌ {A = ℕ} 0 1 = cc in
    omega arith

-- so its record is told by the frame
pub read_framed : (s : List ℕ) → beyond venue_most s ≡ false → venue_read (frame venue_most s) ≡ venue_read s
read_framed s = framed venue_most s venue_read venue_unread

pub cells_framed : (s : List ℕ) → beyond venue_most s ≡ false → venue_cells (frame venue_most s) ≡ venue_cells s
cells_framed s = framed venue_most s venue_cells cells_unread

-- ---- a pair

module _ (n : Counts) (cells : List ℕ) (k : ℕ) where
  pair_beyond : (s : List ℕ) → beyond pair_most s ≡ true → pair_said n cells k s ≡ pair_refused k Record
  unfolding pair_said
  pair_beyond s h = let four = beyond_four pair_most s h in rw (ne_eqb (length s) 0 (λ e. omega arith), h)

  pair_said_unread : Unread (pair_said n cells k)
  unfolding pair_said
  pair_said_unread x rest exact =
      rw (
        ne_eqb (length (x ++ rest)) 0 (λ e. omega (arith, length-append x rest)),
        ne_eqb (length x) 0 (λ e. omega arith),
        beyond_unread pair_most x rest exact,
        pair_unread x rest exact,
      )

  pub pair_framed : (s : List ℕ) → pair_said n cells k (frame pair_most s) ≡ pair_said n cells k s
  pair_framed s = go (beyond pair_most s) refl
    where
      go : (b : Bool) → beyond pair_most s ≡ b → pair_said n cells k (frame pair_most s) ≡ pair_said n cells k s
      go true h = pair_beyond (frame pair_most s) (frame_beyond pair_most s h) ∙ sym (pair_beyond s h)
      go false h = framed pair_most s (pair_said n cells k) pair_said_unread h

  -- where a pair comes next, something stood there, and its length was not beyond the most
  pub pair_on : (s : List ℕ) (j : ℕ) → (pair_said n cells k s).next ≡ Some j → (length s ≡ 0 → ⊥) × (beyond pair_most s ≡ false)
  unfolding pair_said
  pair_on s j = go (eqb (length s) 0) (beyond pair_most s) refl
    where
      go : (a b : Bool) → eqb (length s) 0 ≡ a
          → (cond a (record { text = []; next = None }) (cond b (pair_refused k Record) (said_of_pair n cells k (pair_read s)))).next ≡ Some j
          → (length s ≡ 0 → ⊥) × (b ≡ false)
      go true b e h = absurd (let z : ◌≡◌ {A = ℕ} 0 1 = cc in omega arith)
      go false true e h = absurd (let z : ◌≡◌ {A = ℕ} 0 1 = cc in omega arith)
      go false false e h = (eqb-false (length s) 0 e, refl)

-- what is left is shorter
pub less_left : (s : List ℕ) → (length s ≡ 0 → ⊥) → length (after_record s) < length s
less_left s some = let long : length (after_record s) ≡ _ = length-drop (length_field + announced s) s in omega (arith, some)
