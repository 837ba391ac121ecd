-- The walk from tie to tie: what is still to be found from here is what the whole walk finds. Assumes nothing.
use mathlib.Core.Path.{◌≡◌, refl, sym, ap, ap₂, ◌∙◌, subst}
use mathlib.Core.Bool.{Bool, true, false, cond, not, ◌&&◌, ◌||◌}
use mathlib.Core.List.{List, [], ◌∷◌, ◌++◌}
use Prim.Native.Nat.{ℕ, suc, ◌+◌, ◌*◌, ◌≤◌, ◌<◌}
use native.Mathlib.Omega.{arith}
use lib.Dec.{eqb}
use lib.ListN.{length}
use borrow.Author.Tests.{eq-eqb, ne_eqb}
use Rattle.cells.specs.declared.Cell.{Cell}
use Rattle.cells.specs.declared.Start.{Start}
use Rattle.cells.specs.declared.Start.TheVariants.{Untested}
use Rattle.cells.specs.Manners.{is_tested}
use Rattle.lines.specs.declared.Order.TheVariants.{Yzx, Xzy}
use Rattle.lines.specs.declared.Tie.{Tie}
use Rattle.lines.specs.declared.Tie.TheVariants.{One, Two, Three}
use Rattle.lines.specs.Steps.{Axis, X, Y, Z, Steps, at, total}
use Rattle.lines.specs.Preference.{y_z_x}
use Rattle.lines.specs.Lines.{differences, cell_of}
use Rattle.lines.specs.Decisions.{values, lowered}
use Rattle.lines.specs.Touching.{tie_steps, next_tie, ways, Visit, visits_by, visits_from, visits, visited, visit_cell, crossings}
use Rattle.lines.proofs.Steps.{bump, bump_within}
use Rattle.lines.proofs.Merge.{Within}
use Rattle.lines.proofs.Centres.{centres_good}
use Rattle.lines.proofs.Cells.{cell_start, cell_tells}
use Rattle.lines.proofs.Every.{Each, no_more, also, each_map}
use Rattle.lines.proofs.Signs.{lowered_none}
use Rattle.lines.proofs.Touched.{start_cell}
use Rattle.lines.proofs.Ways.{total_further, at_even, tie_each}
use Rattle.lines.proofs.Visits.{Visiting, at_tie}
use Rattle.tripod.specs.Tripod.{NextTie}
use Rattle.grids.specs.Grid.{byte_of, solid}
use Rattle.walks.specs.declared.FirstHit.{FirstHit}
use Rattle.walks.specs.Walks.{hit_at}
use Rattle.walks.proofs.Find.{is_cell_self}
use Rattle.walks.proofs.Testing.{other_test}
use Rattle.routes.specs.declared.Route.{Route}
use Rattle.routes.specs.declared.Spot.{Spot}
use Rattle.routes.specs.Route.{Planned, SpotAt, byte_of_spot, crossed_spot, CanCross}
use Rattle.routes.proofs.Spots.{short_at, spot_crossed, spot_byte, byte_is, can_cross}
use Rattle.places.specs.Entered.{place_at_p, entered}
use Rattle.hits.specs.declared.Stop.{Stop}
use Rattle.hits.specs.declared.Turn.{Turn}
use Rattle.hits.specs.Answer.{answer_from}
use Rattle.hits.proofs.Stops.{place_answers}
use Rattle.touching.specs.declared.hit.TieTurn.{TieTurn}
use Rattle.touching.specs.Touching.{visit_place, found_in, walking}
use Rattle.touching.specs.Passing.{of_tie, tie_end, CanTie, tie_size}
use Rattle.touching.specs.Looking.{looked, HaveBytes, CanTurn, Turned, told_from, found_along, StopsTouching}
use Rattle.touching.proofs.Group.{Together, neither, both, tie_passes, tie_steps_from, tie_counts, tie_few, can_map}
use Rattle.touching.proofs.Passage.{AtTie, at_start, rest_is, at_next, at_end}
use Rattle.touching.proofs.Entry.{entered_visit}
use Rattle.touching.proofs.Looks.{last_spot, look_one, looked_last}

-- the turn over a tie of one axis, by the spot behind it and the test of its byte
pub one_turned : (l : List ℕ) (k : Route) (s t : Spot) (reads : ℕ) (n : Axis) (b : Bool) → NextTie s.e (One n) → t ≡ crossed_spot k n s →
    solid (byte_of_spot l t) ≡ b → Turned l k s reads (record { turn = record { spot = t; reads = reads + 1; hit = b }; faces = 1 })
one_turned l k s t reads n b next is there =
    record {
      tie = One n;
      next = next;
      turn =
          ap (λ x. record { spot = t; reads = reads + 1; hit = x }) (sym there) ∙ look_one t reads (solid (byte_of_spot l t))
          ∙ ap (λ u. looked l reads s (u ∷ [])) is;
      faces = refl;
    }

module _ (l : List ℕ) (k : Route) (plan : Planned (length l) k) where
  abbrev D : Steps
  D = differences k.p k.q

  -- a spot of a place between the ends
  abbrev pub At : Steps → Spot → Type 0
  At t s = Within D t × SpotAt k t s

  pub at_step : (t : Steps) (s : Spot) (n : Axis) → At t s → t n < D n → At (bump t n) (crossed_spot k n s)
  at_step t s n h lt =
      let wi = bump_within D t n lt h.0 in
      (wi, spot_crossed (length l) k plan t s n wi h.1)

  -- ---- the test of a cell, as the definition has it and as the answer has it

  abbrev test : Start → Cell → Bool
  test start = hit_at (walking start) k.n l k.p

  abbrev place_test : Start → Steps → Bool
  place_test start t = solid (byte_of k.n l (cell_of k.p k.q t)) && (is_tested start || not (eqb (total t) 0))

  -- away from P both are that of the byte
  past_start : (start : Start) (t : Steps) → 0 < total t →
      (test start (cell_of k.p k.q t) ≡ solid (byte_of k.n l (cell_of k.p k.q t))) ×
      (place_test start t ≡ solid (byte_of k.n l (cell_of k.p k.q t)))
  past_start start t some = (
    other_test (walking start) k.n l k.p (cell_of k.p k.q t) far,
    ap (λ b. solid (byte_of k.n l (cell_of k.p k.q t)) && (is_tested start || not b)) (ne_eqb (total t) 0 (λ e. omega arith))
        ∙ counts (solid (byte_of k.n l (cell_of k.p k.q t))) (is_tested start),
  )
    where
      counts : (b t : Bool) → (b && (t || true)) ≡ b
      counts true true = refl
      counts true false = refl
      counts false true = refl
      counts false false = refl

      far : cell_of k.p k.q t ≡ k.p → ⊥
      far e =
          let s = cell_tells k.p k.q t (at 0 0 0) (e ∙ sym (cell_start k.p k.q (at 0 0 0) (at_even 0))) in
          omega (arith, s X, s Y, s Z)

  -- at P they are one
  start_test : (start : Start) → place_test start (at 0 0 0) ≡ test start k.p
  start_test start =
      ap₂ (λ c b. solid (byte_of k.n l c) && (is_tested start || not b)) (cell_start k.p k.q (at 0 0 0) (at_even 0)) (eq-eqb (total (at 0 0 0)) 0 refl)
      ∙ ap (λ b. solid (byte_of k.n l k.p) && (is_tested start || not b)) (sym (is_cell_self k.p))

  -- ---- the answer from a spot

  pub told_planned : Planned (length l) (told_from k)
  told_planned =
      record {
        shaped = plan.shaped;
        p_in = plan.p_in;
        q_in = plan.q_in;
        is = plan.is;
        short = plan.short;
        moves = plan.moves;
        twice = plan.twice;
      }

  -- what is answered at a place whose cell is a hit
  abbrev hit_at_place : Steps → ℕ → FirstHit
  hit_at_place t reads =
      let c : Cell = cell_of k.p k.q t in
      FirstHit.Hit (record { cell = c; code = byte_of k.n l c; place = entered k.p k.q Xzy D t; reads = reads })

  -- the hit of a visit, where it is one
  abbrev hit_of : Visit → ℕ → FirstHit
  hit_of v reads =
      let c : Cell = visit_cell k.p k.q v in
      FirstHit.Hit (record { cell = c; code = byte_of k.n l c; place = visit_place k.p k.q v; reads = reads })

  hit_answer :
      (start : Start) (u : Steps) (v : Visit) → Visiting (crossings k.p k.q) (centres_good y_z_x D) u v → (r : Stop) → At (visited v) r.spot →
      solid (byte_of k.n l (visit_cell k.p k.q v)) ≡ true → answer_from start l (told_from k) r ≡ hit_of v r.reads
  hit_answer start u v h r at-v there =
      place_answers start (length l) (told_from k) told_planned l (visited v) r at-v.0 at-v.1.index
      ∙ ap (λ b. cond b (hit_at_place (visited v) r.reads) (FirstHit.Clear r.reads)) ((past_start start (visited v) (omega (arith, total_further v.from v.by, h.some))).1 ∙ there)
      ∙ ap (λ a. FirstHit.Hit (record {
        cell = visit_cell k.p k.q v;
        code = byte_of k.n l (visit_cell k.p k.q v);
        place = a;
        reads = r.reads;
      })) (entered_visit k.p k.q u v h)

  -- ---- the cells of a tie

  abbrev Tied : Steps → Visit → Type 0
  Tied u v = Visiting (crossings k.p k.q) (centres_good y_z_x D) u v

  -- a turn that hit is at a visit, and that is what the definition finds; one that missed went past all of them
  record Hit (start : Start) (u : Steps) (reads : ℕ) (vs : List Visit) (r : Turn) : Type 0 where
    v : Visit
    visiting : Tied u v
    belongs : At (visited v) r.spot
    there : solid (byte_of k.n l (visit_cell k.p k.q v)) ≡ true
    finds : (more : List Visit) → found_in (test start) k.n l k.p k.q reads (vs ++ more) ≡ hit_of v r.reads

  record Miss (start : Start) (reads : ℕ) (vs : List Visit) (r : Turn) : Type 0 where
    many : r.reads ≡ reads + length vs
    goes_on : (more : List Visit) →
        found_in (test start) k.n l k.p k.q reads (vs ++ more) ≡ found_in (test start) k.n l k.p k.q r.reads more

  abbrev Looked : Start → Steps → ℕ → List Visit → Turn → Bool → Type 0
  Looked start u reads vs r true = Hit start u reads vs r
  Looked start u reads vs r false = Miss start reads vs r

  -- one visit more in front
  hit_later : (start : Start) (u : Steps) (reads : ℕ) (v : Visit) (vs : List Visit) (r : Turn) → test start (visit_cell k.p k.q v) ≡ false →
      Hit start u (reads + 1) vs r → Hit start u reads (v ∷ vs) r
  unfolding found_in
  hit_later start u reads v vs r miss h =
      record {
        v = h.v;
        visiting = h.visiting;
        belongs = h.belongs;
        there = h.there;
        finds = λ more. ap (λ b. cond b (hit_of v (reads + 1)) (found_in (test start) k.n l k.p k.q (reads + 1) (vs ++ more))) miss ∙ h.finds more;
      }

  miss_later : (start : Start) (reads : ℕ) (v : Visit) (vs : List Visit) (r : Turn) → test start (visit_cell k.p k.q v) ≡ false →
      Miss start (reads + 1) vs r → Miss start reads (v ∷ vs) r
  unfolding found_in
  miss_later start reads v vs r miss h =
      record {
        many = omega (arith, h.many);
        goes_on = λ more. ap (λ b. cond b (hit_of v (reads + 1)) (found_in (test start) k.n l k.p k.q (reads + 1) (vs ++ more))) miss ∙ h.goes_on more;
      }

  later_by : (start : Start) (u : Steps) (reads : ℕ) (v : Visit) (vs : List Visit) (r : Turn) (b : Bool) → test start (visit_cell k.p k.q v) ≡ false →
      Looked start u (reads + 1) vs r b → Looked start u reads (v ∷ vs) r b
  later_by start u reads v vs r true miss h = hit_later start u reads v vs r miss h
  later_by start u reads v vs r false miss h = miss_later start reads v vs r miss h

  hit_here : (start : Start) (u : Steps) (reads : ℕ) (v : Visit) (vs : List Visit) (s : Spot) → Tied u v → At (visited v) s →
      test start (visit_cell k.p k.q v) ≡ true → solid (byte_of k.n l (visit_cell k.p k.q v)) ≡ true →
      Hit start u reads (v ∷ vs) (record { spot = s; reads = reads + 1; hit = true })
  unfolding found_in
  hit_here start u reads v vs s h at-v met there =
      record {
        v = v;
        visiting = h;
        belongs = at-v;
        there = there;
        finds = λ more. ap (λ b. cond b (hit_of v (reads + 1)) (found_in (test start) k.n l k.p k.q (reads + 1) (vs ++ more))) met;
      }

  -- spots that belong to visits, looked at one after the other
  scan : (start : Start) (u : Steps) (reads : ℕ) (d : Spot) (vs : List Visit) (ss : List Spot) → Together (λ v s. At (visited v) s) vs ss → Each (Tied u) vs →
      Looked start u reads vs (looked l reads d ss) (looked l reads d ss).hit
  scan start u reads d [] [] neither no_more = record { many = omega arith; goes_on = λ more. refl }
  scan start u reads d [] (s ∷ ss) x4 _ = elim x4 [ ]
  scan start u reads d (v ∷ vs) [] x5 _ = elim x5 [ ]
  scan start u reads d (v ∷ vs) (s ∷ ss) (both r t) (also h e) = go (solid (byte_of_spot l s)) refl (scan start u (reads + 1) s vs ss t e)
    where
      byte : solid (byte_of_spot l s) ≡ solid (byte_of k.n l (visit_cell k.p k.q v))
      byte = ap solid (byte_is (length l) k plan l (visited v) s r.1)

      same : test start (visit_cell k.p k.q v) ≡ solid (byte_of k.n l (visit_cell k.p k.q v))
      same = (past_start start (visited v) (omega (arith, total_further v.from v.by, h.some))).0

      go : (b : Bool) → solid (byte_of_spot l s) ≡ b → Looked start u (reads + 1) vs (looked l (reads + 1) s ss) (looked l (reads + 1) s ss).hit →
          Looked start u reads (v ∷ vs) (cond b (record { spot = s; reads = reads + 1; hit = true }) (looked l (reads + 1) s ss))
          (cond b (record { spot = s; reads = reads + 1; hit = true }) (looked l (reads + 1) s ss)).hit
      go true is below = hit_here start u reads v vs s h r (same ∙ sym byte ∙ is) (sym byte ∙ is)
      go false is below = later_by start u reads v vs (looked l (reads + 1) s ss) (looked l (reads + 1) s ss).hit (same ∙ sym byte ∙ is) below

  -- ---- from tie to tie

  -- whichever the start, if P is no hit: what is found from here on, so many cells read, is what the definition finds
  abbrev pub Rest : ℕ → List Visit → Type 0
  Rest reads rest = (start : Start) → test start k.p ≡ false → found_in (test start) k.n l k.p k.q reads rest ≡ found_along start l k

  pub record Walking (s : Spot) (m reads : ℕ) : Type 0 where
    pub between : AtTie D At (crossed_spot k) at_step (Rest reads) s m
    pub few : reads ≤ 1 + 7 * m
    pub least : m < reads

  pub walking_start : (s : Spot) → SpotAt k (at 0 0 0) s → Walking s 0 1
  unfolding visits found_in
  walking_start s h =
      record {
        between = at_start D At (crossed_spot k) at_step (Rest 1) s ((λ a. omega (arith, at_even 0 a)), h) first;
        few = omega arith;
        least = omega arith;
      }
    where
      first : (start : Start) → test start k.p ≡ false →
          found_in (test start) k.n l k.p k.q 1 (visits_from (crossings k.p k.q) (total D) (at 0 0 0)) ≡ found_along start l k
      first start miss =
          sym (ap (λ b. cond b (hit_of (record { from = at 0 0 0; by = at 0 0 0 }) 1)
          (found_in (test start) k.n l k.p k.q 1 (visits_from (crossings k.p k.q) (total D) (at 0 0 0))))
          (ap (test start) (start_cell k.p k.q) ∙ miss))

  -- a P that is tested and solid is the hit
  pub start_stops : (s : Spot) → SpotAt k (at 0 0 0) s → (start : Start) → test start k.p ≡ true → StopsTouching start l k (record { spot = s; reads = 1; hit = true })
  unfolding entered visit_place visits found_in
  start_stops s h start met =
      record {
        byte = spot_byte (length l) k plan (at 0 0 0) s none h;
        answers =
            place_answers start (length l) (told_from k) told_planned l (at 0 0 0) (record { spot = s; reads = 1 }) none h.index
            ∙ ap (λ b. cond b (hit_at_place (at 0 0 0) 1) (FirstHit.Clear 1)) (start_test start ∙ met)
            ∙ ap (λ c. FirstHit.Hit (record { cell = c; code = byte_of k.n l c; place = place_at_p; reads = 1 }))
            (cell_start k.p k.q (at 0 0 0) (at_even 0) ∙ sym (start_cell k.p k.q))
            ∙ sym (ap (λ b. cond b (hit_of (record { from = at 0 0 0; by = at 0 0 0 }) 1)
            (found_in (test start) k.n l k.p k.q 1 (visits_from (crossings k.p k.q) (total D) (at 0 0 0))))
            (ap (test start) (start_cell k.p k.q) ∙ met));
      }
    where
      none : (a : Axis) → at 0 0 0 a ≤ D a
      none a = omega (arith, at_even 0 a)

  -- the test of the byte is that of P
  pub start_byte : (s : Spot) → SpotAt k (at 0 0 0) s → (start : Start) → (is_tested start && solid (byte_of_spot l s)) ≡ test start k.p
  start_byte s h start =
      ap (λ b. is_tested start && solid b) (byte_is (length l) k plan l (at 0 0 0) s h)
      ∙ turned (is_tested start) (solid (byte_of k.n l (cell_of k.p k.q (at 0 0 0))))
      ∙ ap (λ b. solid (byte_of k.n l (cell_of k.p k.q (at 0 0 0))) && (is_tested start || not b)) (sym (eq-eqb (total (at 0 0 0)) 0 refl))
      ∙ start_test start
    where
      turned : (t b : Bool) → (t && b) ≡ (b && (t || false))
      turned true true = refl
      turned true false = refl
      turned false true = refl
      turned false false = refl

  module _ (order : k.order ≡ Yzx) (s : Spot) (m reads : ℕ) (h : Walking s m reads) where
    pub faces_most : m ≤ total D
    faces_most = let b = h.between in omega (arith, b.made, b.full.within X, b.full.within Y, b.full.within Z)

    -- how many cells were read, at most
    pub reads_most : reads ≤ 344044
    reads_most =
        let short = short_at (length l) k plan in
        omega (arith, h.few, faces_most, short X, short Y, short Z)

    module _ (lt : m < total D) where
      abbrev t : Steps
      t = h.between.t

      less : total t < total D
      less = omega (arith, h.between.made)

      found : (tie : Tie) → NextTie s.e tie → tie ≡ next_tie (crossings k.p k.q) t
      found tie next =
          next.comes_first D t h.between.full.within less
          (h.between.belongs.1.value ∙ ap (λ o. lowered o (values D t)) order ∙ lowered_none _)

      abbrev here : List Visit
      here = visits_by t (tie_steps (crossings k.p k.q) t) ways

      -- the spots belong to the tie's visits
      spots : (tie : Tie) → tie ≡ next_tie (crossings k.p k.q) t → Together (λ v u. At (visited v) u) here (of_tie (crossed_spot k) tie s)
      spots tie is =
          subst (λ u. Together (λ v w. At (visited v) w) here (of_tie (crossed_spot k) u s)) (sym is)
          (tie_passes D At (crossed_spot k) at_step (crossings k.p k.q) (centres_good y_z_x D) refl t s h.between.belongs
          h.between.full.within less).0

      size : (tie : Tie) → tie ≡ next_tie (crossings k.p k.q) t → length here ≡ tie_size tie
      size tie is = (tie_counts (crossings k.p k.q) (centres_good y_z_x D) t h.between.full.within less).0 ∙ ap tie_size (sym is)

      have_bytes : {vs : List Visit} {ss : List Spot} → Together (λ v u. At (visited v) u) vs ss → HaveBytes (length l) ss
      have_bytes neither = tt
      have_bytes (both {x = v} {y = u} r b) = (spot_byte (length l) k plan (visited v) u r.0 r.1, have_bytes b)

      together_length : {vs : List Visit} {ss : List Spot} → Together (λ v u. At (visited v) u) vs ss → length vs ≡ length ss
      together_length neither = refl
      together_length (both r b) = ap suc (together_length b)

      short : (a : Axis) → D a ≤ 16383
      short = short_at (length l) k plan

      pub walking_can : CanTurn (length l) k s reads
      walking_can =
          record {
            fits = λ tie next.
                let is = found tie next in
                record {
                  steps = subst (λ u. CanTie (λ s. CanCross s k) (crossed_spot k) u s) (sym is)
                      (can_map (crossed_spot k) (λ u b. can_cross (length l) k plan b.0 u b.1.0 b.1.1) (next_tie (crossings k.p k.q) t) s
                      (tie_steps_from D At (crossed_spot k) at_step (crossings k.p k.q) (centres_good y_z_x D) refl t s h.between.belongs
                      h.between.full.within less));
                  look = record {
                    few = omega (arith, h.few, short X, short Y, short Z, together_length (spots tie is), size tie is, tie_few tie);
                    there = have_bytes (spots tie is);
                  };
                };
          }

      -- what the turn says
      turned : (start : Start) (r : TieTurn) → Turned l k s reads r → Looked start t reads here r.turn r.turn.hit
      turned start r c =
          subst (λ u. Looked start t reads here u u.hit) (sym c.turn)
          (scan start t reads s here (of_tie (crossed_spot k) c.tie s) (spots c.tie (found c.tie c.next))
          (each_map (at_tie (crossings k.p k.q) (centres_good y_z_x D) t h.between.full) (tie_each t (tie_steps (crossings k.p k.q) t))))

      -- a turn that hit stops the walk
      pub turn_stops : (r : TieTurn) → Turned l k s reads r → r.turn.hit ≡ true → (start : Start) → test start k.p ≡ false →
          StopsTouching start l k r.turn
      turn_stops r c hit start miss =
          let w = subst (Looked start t reads here r.turn) hit (turned start r c) in
          let (more, e) = rest_is D At (crossed_spot k) at_step (Rest reads) s m h.between lt in
          record {
            byte = spot_byte (length l) k plan (visited w.v) r.turn.spot w.belongs.0 w.belongs.1;
            answers =
                ap (λ b. cond b (answer_from start l (told_from k) (record { spot = r.turn.spot; reads = r.turn.reads })) (FirstHit.Clear r.turn.reads)) hit
                ∙ hit_answer start t w.v w.visiting (record { spot = r.turn.spot; reads = r.turn.reads }) w.belongs w.there
                ∙ sym (w.finds more) ∙ ap (found_in (test start) k.n l k.p k.q reads) (sym e) ∙ h.between.rest start miss;
          }

      -- one that missed is past the tie
      pub turn_goes : (r : TieTurn) → Turned l k s reads r → r.turn.hit ≡ false → Walking r.turn.spot (m + r.faces) r.turn.reads
      turn_goes r c hit =
          record {
            between =
                subst (λ u. AtTie D At (crossed_spot k) at_step (Rest r.turn.reads) u (m + r.faces)) (sym at_last)
                (subst (λ f. AtTie D At (crossed_spot k) at_step (Rest r.turn.reads) (tie_end (crossed_spot k) c.tie s) (m + f)) (sym c.faces)
                (at_next D At (crossed_spot k) at_step (Rest reads) (Rest r.turn.reads) s m h.between lt c.tie is onward));
            few = omega (arith, h.few, (w Untested).many, size c.tie is, tie_few c.tie, c.faces);
            least = omega (arith, h.least, (w Untested).many, size c.tie is, tie_few c.tie, c.faces);
          }
        where
          is : c.tie ≡ next_tie (crossings k.p k.q) t
          is = found c.tie c.next

          w : (start : Start) → Miss start reads here r.turn
          w start = subst (Looked start t reads here r.turn) hit (turned start r c)

          last_is : (tie : Tie) → last_spot s (of_tie (crossed_spot k) tie s) ≡ tie_end (crossed_spot k) tie s
          last_is (One n) = refl
          last_is (Two a b) = refl
          last_is Three = refl

          at_last : r.turn.spot ≡ tie_end (crossed_spot k) c.tie s
          at_last =
              ap (λ u. u.spot) c.turn ∙ looked_last l reads s (of_tie (crossed_spot k) c.tie s) (ap (λ u. u.hit) (sym c.turn) ∙ hit) ∙ last_is c.tie

          onward : (more : List Visit) → Rest reads (here ++ more) → Rest r.turn.reads more
          onward more rest = λ start miss. sym ((w start).goes_on more) ∙ rest start miss

    -- after the last crossing the way is clear
    pub walk_stops : total D ≤ m → (start : Start) → test start k.p ≡ false → StopsTouching start l k (record { spot = s; reads = reads; hit = false })
    unfolding found_in
    walk_stops le start miss =
        let b = h.between in
        record {
          byte = spot_byte (length l) k plan b.t s b.belongs.0 b.belongs.1;
          answers = at_end D At (crossed_spot k) at_step (Rest reads) s m b le start miss;
        }
