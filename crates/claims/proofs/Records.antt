-- The claims about venue and pair records, each from its law. Assumes nothing.
use Rattle.std.specs.Prelude.{Result, Ok, Err}
use Rattle.cells.specs.declared.Refusal.{Refusal}
use Prim.Native.Nat.{ℕ, ◌+◌, ◌-◌, ◌*◌, ◌≤◌}
use native.Mathlib.Nat.{mul-le-mul}
use native.Mathlib.Omega.{arith}
use mathlib.Core.Path.{◌≡◌, sym, ap, ◌∙◌, subst}
use mathlib.Core.Bool.{cond}
use mathlib.Core.Logic.{◌⊎◌, inl, inr, ⊎_elim}
use mathlib.Core.List.{List, ◌++◌, append_assoc}
use lib.Dec.{eqb}
use lib.ListN.{length, get_or, take, drop, take-append-drop}
use borrow.Author.Tests.{eqb-true, lt-ltb, le-ltb, ne_eqb, not-false}
use denote.Ref.{Bor}
use Rattle.cells.specs.Parts.{StartsAt}
use Rattle.cells.specs.declared.Counts.{Counts}
use Rattle.cells.specs.declared.Rule.{Rule}
use Rattle.cells.specs.declared.Rule.TheVariants.{One, Two}
use Rattle.cells.specs.Manners.{rule_of, rule_check}
use Rattle.cells.proofs.Checks.{passed, by_refusal}
use Rattle.cells.proofs.Conditions.{or_means, eqb_means}
use Rattle.cells.proofs.Signed.{up}
use Rattle.grids.specs.Grid.{size, shape}
use Rattle.grids.proofs.Shapes.{shaped}
use Rattle.records.specs.declared.pairs.Pair.{Pair}
use Rattle.records.specs.declared.venues.Venue.{Venue}
use Rattle.records.specs.Heads.{length_field, announced, version_of, whole_check}
use Rattle.records.specs.Venues.{cells_from, counts_at, venue_version, venue_head, venue_check, venue_read, venue_cells, start_of, ReadsVenue, GivesCells}
use Rattle.records.specs.Pairs.{signed, pair_version, pair_length, rule_byte, pair_in, pair_check, pair_read}
use Rattle.records.proofs.HeadTests.{venue_accepted, pair_accepted}
use Rattle.records.proofs.Following.{venue_unread, cells_unread, pair_unread}
use Rattle.records.specs.Writing.{written_version, head_bytes, record_length, write_check, after_writing, WritesVenue}
use Rattle.records.proofs.RoundTrip.{read_back, cells_back, front_written, record_fits, same_bytes}
use Rattle.claims.specs.Records.{OneAnswer, Right, RightPair, Accepted, LengthTested, ThePart, SameVenue, ReadBack, WrittenBack, NotLookedAt, minus_one_pair, pair_by, NumbersRead, WrongRecords}
use Rattle.claims.proofs.Grids.{one, one_place}

-- 1 where a venue was written
accepts : Result ℕ Refusal → ℕ
accepts (Ok n) = 1
accepts (Err r) = 0

pub one_answer : OneAnswer
unfolding accepts
one_answer =
    record {
      venue = λ s r t e f. one r t e.says f.says;
      cells = λ bytes a b e f. (one a.now b.now e.says f.says, one_place e.there f.there);
      pair = λ s r t e f. one r t e.says f.says;
      written = λ n cells entry r t x y e f. (one r t e.says f.says, one x y e.holds f.holds);
      untouched = λ n cells entry r x e.
          by_refusal Err (write_check n (length cells) (length entry)) (Ok (record_length n)) (after_writing n cells entry)
          (λ no. let z : ◌≡◌ {A = ℕ} 1 0 = ap accepts no in omega arith) (sym e.says) e.holds;
    }

pub not_looked_at : (s rest : List ℕ) → NotLookedAt s rest
not_looked_at s rest =
    record {
      venue = λ exact r t e f. e.says ∙ sym (venue_unread s rest exact) ∙ sym f.says;
      cells = λ exact short long a b es el e f.
          let same : venue_read long.now ≡ venue_read short.now = ap venue_read el ∙ venue_unread s rest exact ∙ ap venue_read (sym es) in (
            e.says ∙ ap venue_cells es ∙ sym (cells_unread s rest exact) ∙ ap venue_cells (sym el) ∙ sym f.says,
            (start_of (venue_read short.now), e.there, subst (λ (r : Result Venue Refusal). StartsAt (start_of r) long b) same f.there),
          );
      pair = λ exact r t e f. e.says ∙ sym (pair_unread s rest exact) ∙ sym f.says;
    }

-- ---- what is accepted

right : (s : List ℕ) (v : Venue) → venue_read s ≡ Ok v → Right s v
unfolding venue_version venue_head
right s v e =
    let (w, f) = venue_accepted s v e in
    let fine : shape v.counts v.long ≡ Ok tt = subst (λ (u : Venue). shape u.counts u.long ≡ Ok tt) f w.shaped in
    let size_is = (shaped v.counts v.long fine).bytes_are in
    let long : announced s - 7 ≡ v.long = ap (λ (u : Venue). u.long) f in
    let head = w.head in
    record {
      whole = w.there;
      version = eqb-true _ _ w.version;
      length_is = omega arith;
      counts_are = sym (ap (λ (u : Venue). u.counts) f);
      shape_is = subst (λ (k : ℕ). shape v.counts k ≡ Ok tt) size_is fine;
      part = (sym (ap (λ (u : Venue). u.start) f), size_is);
    }

-- the tests that both records begin with, passed
whole_fine : (s : List ℕ) → 4 + announced s ≤ length s → 1 ≤ announced s → whole_check s ≡ Ok tt
unfolding whole_check
whole_fine s there some =
    rw (
      le-ltb (length s) length_field (omega arith),
      ne_eqb (announced s) 0 (λ e. omega arith),
      le-ltb (length s) (length_field + announced s) there,
    )

accepted_venue : (s : List ℕ) (v : Venue) → Right s v → Ok v ≡ venue_read s
unfolding venue_version venue_head venue_check venue_read
accepted_venue s v r =
    let long : announced s - 7 ≡ size v.counts = omega (arith, r.length_is) in
    let fine : shape (counts_at s 5) (announced s - 7) ≡ Ok tt =
    subst (λ (m : Counts). shape m (announced s - 7) ≡ Ok tt) r.counts_are (subst (λ (k : ℕ). shape v.counts k ≡ Ok tt) (sym long) r.shape_is) in
    rw (whole_fine s r.whole (omega (arith, r.length_is)), r.version, le-ltb (announced s) 7 (omega (arith, r.length_is)), fine)
    (ap Ok (λ i. record { counts = r.counts_are i; start = r.part.0 i; long = (r.part.1 ∙ sym long) i }))

-- a number that is not refused 12 names a rule
ruled : (b : ℕ) → rule_check b ≡ Ok tt → ((b ≡ 1) × (rule_of b ≡ One)) ⊎ ((b ≡ 2) × (rule_of b ≡ Two))
unfolding rule_check rule_of
ruled b fine =
    ⊎_elim (λ is. inl (is, ap (λ k. cond (eqb k 2) Two One) is)) (λ is. inr (is, ap (λ k. cond (eqb k 2) Two One) is))
    ((or_means (eqb_means b 1) (eqb_means b 2)).0 (not-false _ (passed _ _ fine)))

-- the version, the length and the rule of a pair
abbrev Versions : List ℕ → Rule → Type 0
Versions s rule =
    ((version_of s ≡ 1) × (announced s ≡ 13) × (rule ≡ One))
    ⊎ ((version_of s ≡ 2) × (announced s ≡ 14) × (((get_or s 17 0 ≡ 1) × (rule ≡ One)) ⊎ ((get_or s 17 0 ≡ 2) × (rule ≡ Two))))

right_pair : (s : List ℕ) (e : Pair) → Ok e ≡ pair_read s → RightPair s e
unfolding pair_version pair_length rule_byte rule_of
right_pair s e h =
    let (w, same) = pair_accepted s e (sym h) in
    record {
      whole = w.there;
      version = by (ap (λ (u : Pair). u.rule) (sym same)) w.long w.ruled
          ((or_means (eqb_means (version_of s) 1) (eqb_means (version_of s) 2)).0 w.version);
      p_is = ap (λ (u : Pair). u.p) (sym same);
      q_is = ap (λ (u : Pair). u.q) (sym same);
    }
  where
    by : e.rule ≡ rule_of (cond (eqb (version_of s) 2) (get_or s 17 0) 1) → announced s ≡ cond (eqb (version_of s) 2) 14 13 →
        rule_check (cond (eqb (version_of s) 2) (get_or s 17 0) 1) ≡ Ok tt → (version_of s ≡ 1) ⊎ (version_of s ≡ 2) → Versions s e.rule
    by rule long fine (inl first) = inl (first, rw first at long, rw first at rule)
    by rule long fine (inr second) =
        let is : e.rule ≡ rule_of (get_or s 17 0) = rw second at rule in
        inr (
          second,
          rw second at long,
          ⊎_elim (λ (byte, r). inl (byte, is ∙ r)) (λ (byte, r). inr (byte, is ∙ r)) (ruled (get_or s 17 0) (rw second at fine)),
        )

accepted_pair : (s : List ℕ) (e : Pair) → RightPair s e → Ok e ≡ pair_read s
unfolding pair_read pair_check pair_version pair_length rule_byte rule_check rule_of
accepted_pair s e r = by r.version
  where
    read : {rule : Rule} → e.rule ≡ rule → e ≡ record { p = (pair_in s).p; q = (pair_in s).q; rule = rule }
    read is = λ i. record { p = r.p_is i; q = r.q_is i; rule = is i }

    by : Versions s e.rule → Ok e ≡ pair_read s
    by (inl (first, long, is)) = rw (whole_fine s r.whole (omega (arith, long)), first, long) (ap Ok (read is))
    by (inr (second, long, inl (byte, is))) = rw (whole_fine s r.whole (omega (arith, long)), second, long, byte) (ap Ok (read is))
    by (inr (second, long, inr (byte, is))) = rw (whole_fine s r.whole (omega (arith, long)), second, long, byte) (ap Ok (read is))

pub accepted : (s : List ℕ) → Accepted s
accepted s =
    record {
      venue = λ v. (λ c. right s v (sym c.says), λ r. record { says = accepted_venue s v r });
      pair = λ e. (λ c. right_pair s e c.says, λ r. record { says = accepted_pair s e r });
    }

pub length_tested : (s : List ℕ) → LengthTested s
unfolding venue_version venue_head venue_check venue_read shape
length_tested s =
    record {
      three = λ there version seven counted other.
          record {
            says = rw (
              whole_fine s there (omega arith),
              version,
              le-ltb (announced s) 7 seven,
              counted,
              ne_eqb (announced s - 7) (size (counts_at s 5)) (λ e. other (omega arith)),
            );
          };
    }

pub the_part : (bytes part : Bor (List ℕ)) → ThePart bytes part
unfolding venue_cells
the_part bytes part =
    record {
      accepted = λ v c g.
          let e = sym c.says in
          let h = shaped v.counts (length (venue_cells bytes.now)) (record_fits bytes.now v e).fine in
          let some : 1 * 1 ≤ size v.counts = mul-le-mul h.layer_some h.z.some in (
            subst (λ (r : Result Venue Refusal). StartsAt (start_of r) bytes part) e g.there,
            ap length g.says ∙ h.bytes_are ∙ sym (right bytes.now v e).part.1,
            omega (arith, h.bytes_are, ap length g.says),
          );
      refused = λ r c g. g.says ∙ rw (sym c.says);
    }

-- ---- the round trip

pub read_back_same : (n : Counts) (cells entry : List ℕ) → ReadBack n cells entry
unfolding venue_head
read_back_same n cells entry = record { same = same; in_place = in_place }
  where
    same : (exit : List ℕ) (k : ℕ) → WritesVenue n cells entry (Ok k) exit → (rest : List ℕ) (bytes part : Bor (List ℕ)) (r : Result Venue Refusal) →
        bytes.now ≡ take k exit ++ rest → ReadsVenue bytes.now r → GivesCells bytes part → SameVenue n cells bytes part r
    same exit k c rest bytes part r is reads gives =
        let f = front_written n cells entry exit k c in
        let bytes_are : bytes.now ≡ head_bytes written_version n ++ (cells ++ rest) =
        is ∙ ap (λ l. l ++ rest) f.front ∙ append_assoc (head_bytes written_version n) cells rest in
        let long : size n ≡ length cells = sym (shaped n (length cells) f.fine).bytes_are in
        let back = ap venue_read bytes_are ∙ read_back n cells rest f.fine
        ∙ ap (λ (l : ℕ). Ok (record { counts = n; start = cells_from written_version; long = l })) long in
        record {
          read = reads.says ∙ back;
          same_cells = gives.says ∙ ap venue_cells bytes_are ∙ cells_back n cells rest f.fine;
          there = subst (λ (a : Result Venue Refusal). StartsAt (start_of a) bytes part) back gives.there;
        }

    in_place : (exit : List ℕ) (k : ℕ) → WritesVenue n cells entry (Ok k) exit → (bytes part : Bor (List ℕ)) (r : Result Venue Refusal) →
        bytes.now ≡ exit → ReadsVenue bytes.now r → GivesCells bytes part → SameVenue n cells bytes part r
    in_place exit k c bytes part r is = same exit k c (drop k exit) bytes part r (is ∙ sym (take-append-drop k exit))

pub written_back_same : (bytes part : Bor (List ℕ)) → WrittenBack bytes part
written_back_same bytes part =
    record {
      same = λ all v c gives entry room w exit writes.
          same_bytes bytes.now v entry exit w all (sym c.says) room (subst (λ (l : List ℕ). WritesVenue v.counts l entry w exit) gives.says writes);
    }

-- ---- numbers

pub numbers_read : NumbersRead
unfolding signed
numbers_read =
    record {
      four = λ a b c d s. omega arith;
      upwards = λ v h. rw (lt-ltb v 32768 h);
      downwards = λ v h. rw (le-ltb v 32768 h);
    }

-- ---- wrong answers

pub wrong_records : WrongRecords
unfolding accepts shape whole_check venue_version venue_head venue_check venue_read venue_cells signed pair_version pair_length rule_byte pair_check
    pair_read rule_check rule_of write_check
wrong_records =
    record {
      refuser = λ r c. let e = c.says in let z : ◌≡◌ {A = ℕ} 0 1 = cc in omega arith;
      other_version = λ v c. let e = c.says in let z : ◌≡◌ {A = ℕ} 0 1 = cc in omega arith;
      whole_part = λ bytes part is g w. let z : ◌≡◌ {A = ℕ} 19 8 = ap length (sym w ∙ g.says ∙ ap venue_cells is) in omega arith;
      empty_part = λ bytes part is g none. let z : ◌≡◌ {A = ℕ} 0 8 = ap length (sym none ∙ g.says ∙ ap venue_cells is) in omega arith;
      part_elsewhere = λ bytes part is g same.
          let f : start_of (venue_read bytes.now) ≡ 11 = ap (λ (l : List ℕ). start_of (venue_read l)) is in
          omega (arith, g.there.offset, ap (λ (p : ℕ × ℕ). p.1) same);
      pair_refuser = λ r c. let e = c.says in let z : ◌≡◌ {A = ℕ} 0 1 = cc in omega arith;
      unsigned = λ e c u.
          let f = c.says in
          let same : e ≡ pair_in minus_one_pair = cc in
          let z : ◌≡◌ {A = ℕ} 65535 0 = ap up (sym u ∙ ap (λ (p : Pair). p.q.x) same) in
          omega arith;
      two_as_one = λ e c u.
          let f = c.says in
          let same : e ≡ pair_in (pair_by 2) = cc in
          let g : One ≡ Two = sym u ∙ ap (λ (p : Pair). p.rule) same in
          let z : ◌≡◌ {A = ℕ} 0 1 = cc in
          omega arith;
      second_short = λ e c. let f = c.says in let z : ◌≡◌ {A = ℕ} 0 1 = cc in omega arith;
      first_long = λ e c. let f = c.says in let z : ◌≡◌ {A = ℕ} 0 1 = cc in omega arith;
      not_twelve = λ r c other. other c.says;
      idle_writer = λ r w. let e : ◌≡◌ {A = ℕ} 99 0 = ap (λ (l : List ℕ). get_or l 0 0) w.holds in omega arith;
      short_writer = λ exit w. let z : ◌≡◌ {A = ℕ} 1 0 = ap accepts w.says in omega arith;
    }
