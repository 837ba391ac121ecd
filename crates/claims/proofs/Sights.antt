-- The claims about the sight call, from its definition and the claims about the adaptive walk. Assumes nothing.
use Rattle.std.specs.Prelude.{Ok, Err, Result}
use Rattle.cells.specs.declared.Cell.{Cell}
use Prim.Native.Nat.{ℕ, ◌≤◌}
use mathlib.Core.Path.{◌≡◌, refl, sym, ap, ap₂, ◌∙◌}
use mathlib.Core.Bool.{cond}
use mathlib.Core.List.{List}
use native.Mathlib.Omega.{arith}
use lib.Ieee.{eq, le, lt, of_int, div, sub}
use lib.ListN.{length}
use Rattle.cells.specs.declared.Cell as cell
use Rattle.cells.specs.declared.Counts.{Counts}
use Rattle.cells.specs.declared.End.{End}
use Rattle.cells.specs.declared.End.TheVariants.{P, Q}
use Rattle.cells.specs.declared.Axis.TheVariants.{Y}
use Rattle.cells.specs.declared.Face.TheVariants as Face
use Rattle.cells.specs.declared.Manner.{Manner}
use Rattle.cells.specs.declared.Refusal.{Refusal}
use Rattle.cells.specs.declared.Rule.{Rule}
use Rattle.cells.specs.declared.Rule.TheVariants.{One, Two}
use Rattle.cells.specs.declared.Start.{Start}
use Rattle.cells.specs.declared.Start.TheVariants.{Untested, Tested}
use Rattle.cells.specs.Manners.{is_tested}
use Rattle.cells.specs.Checks.{◌then◌, by_verdict}
use Rattle.cells.proofs.Checks.{by_fine}
use Rattle.grids.specs.Grid.{shape}
use Rattle.walks.specs.declared.Walker.TheVariants.{Adaptive}
use Rattle.walks.specs.declared.Hit.{Hit}
use Rattle.walks.specs.declared.FirstHit.{FirstHit}
use Rattle.walks.specs.Answers.{first_hit}
use Rattle.survey.specs.declared.Placement.{Placement}
use Rattle.survey.specs.declared.Point.{Point}
use Rattle.survey.specs.Survey.{placement_check, look_up}
use Rattle.sight.specs.declared.Block.{Block}
use Rattle.sight.specs.declared.Sight.{Sight}
use Rattle.sight.specs.declared.Sight.TheVariants.{Clear, Blocked, Refused}
use Rattle.sight.specs.Sight.{share_of, sight_of, seen, looked, sight, Sees}
use Rattle.sight.proofs.Seen.{looked_is, sight_is, camera_refused, both_found}
use Rattle.claims.proofs.Story.{nothing_in_the_way}
use Rattle.claims.specs.Sights.{SeenOnce, AsTheWalk, NothingInSight, CameraFirst, BlockedAsHit, SeenAlike, SeenThere, SeenBack, Housed, WrongSights, FarCorner}
use Rattle.claims.specs.Example.{example_counts, at}
use Rattle.claims.specs.Points.{metres, one_metre, point}
use Rattle.claims.specs.Starred.{halves}

-- 0 clear, 1 blocked, 2 refused
kind : Sight → ℕ
kind Clear = 0
kind (Blocked b) = 1
kind (Refused r) = 2

-- ---- a clear sight

walk_clear : (h : Result FirstHit Refusal) → sight_of h ≡ Clear → (reads : ℕ) × (h ≡ Ok (FirstHit.Clear reads))
unfolding kind
walk_clear (Ok (FirstHit.Clear reads)) e = (reads, refl)
walk_clear (Ok (FirstHit.Hit h)) e = absurd (let z : ◌≡◌ {A = ℕ} 1 0 = ap kind e in omega arith)
walk_clear (Err r) e = absurd (let z : ◌≡◌ {A = ℕ} 2 0 = ap kind e in omega arith)

not_clear : (r : Refusal) → ¬ (Refused r ≡ Clear)
unfolding kind
not_clear r e = let z : ◌≡◌ {A = ℕ} 2 0 = ap kind e in omega arith

-- ---- a blocked sight

-- what it is blocked by
block_or : Block → Sight → Block
block_or b Clear = b
block_or b (Blocked c) = c
block_or b (Refused r) = b

-- a hit as what blocks a sight
abbrev block_of : Hit → Block
block_of h = record { share = share_of h.place.num h.place.den; cell = h.cell; code = h.code; reads = h.reads; face = h.place.face }

walk_blocked : (h : Result FirstHit Refusal) (b : Block) → sight_of h ≡ Blocked b → (k : Hit) × (h ≡ Ok (FirstHit.Hit k)) × (b ≡ block_of k)
unfolding kind block_or
walk_blocked (Ok (FirstHit.Hit h)) b e = (h, refl, ap (block_or b) (sym e))
walk_blocked (Ok (FirstHit.Clear reads)) b e = absurd (let z : ◌≡◌ {A = ℕ} 0 1 = ap kind e in omega arith)
walk_blocked (Err r) b e = absurd (let z : ◌≡◌ {A = ℕ} 2 1 = ap kind e in omega arith)

not_blocked : (b : Block) (r : Refusal) → ¬ (Refused r ≡ Blocked b)
unfolding kind
not_blocked b r e = let z : ◌≡◌ {A = ℕ} 2 1 = ap kind e in omega arith

-- ---- a sight that is no refusal is what the adaptive walk says between the two cells that were found

-- the two lookups found them
record Looked (how : Manner) (n : Counts) (l : List ℕ) (f t : Result Cell Refusal) (s : Sight) : Type 0 where
  from : cell.Cell
  to : cell.Cell
  from_is : f ≡ Ok from
  to_is : t ≡ Ok to
  walk : sight_of (first_hit Adaptive how n l from to) ≡ s

seen_by : (how : Manner) (n : Counts) (l : List ℕ) (f t : Result Cell Refusal) {s : Sight} → ((r : Refusal) → ¬ (Refused r ≡ s)) → seen how n l f t ≡ s →
    Looked how n l f t s
seen_by how n l (Ok c) (Ok b) other e = record { from = c; to = b; from_is = refl; to_is = refl; walk = e }
seen_by how n l (Ok c) (Err r) other e = absurd (other r e)
seen_by how n l (Err r) t other e = absurd (other r e)

-- ---- the claims

module _ (how : Manner) (n : Counts) (l : List ℕ) (at : Placement) (camera ball : Point) where
  pub seen_once : SeenOnce how n l at camera ball
  seen_once = record { once = λ r s h k. h.says ∙ sym k.says }

  pub as_the_walk : AsTheWalk how n l at camera ball
  as_the_walk =
      record {
        same = λ c b r h fine placed from to sees hit.
            sees.says ∙ sight_is how n l at camera ball ∙
            ap₂ (λ v w. by_verdict Refused (looked how n l at camera ball) (v then w)) fine placed ∙
            both_found how n l at camera ball (sym from) refl (sym to) refl hit.says;
      }

  looked_by : {s : Sight} → ((r : Refusal) → ¬ (Refused r ≡ s)) → Sees how n l at camera ball s → Looked how n l (look_up P n at camera) (look_up Q n at ball) s
  looked_by other sees =
      let (fine, is) = by_fine Refused (shape n (length l) then placement_check at) _ other (sym (sight_is how n l at camera ball) ∙ sym sees.says) in
      seen_by how n l _ _ other (sym (looked_is how n l at camera ball) ∙ is)

  pub nothing_in_sight : (k : ℕ) → 2 ≤ k → NothingInSight k how n l at camera ball
  nothing_in_sight k two =
      record {
        open_way = λ whole sees.
            let found = looked_by not_clear sees in
            let (reads, is) = walk_clear _ found.walk in
            record {
              from = found.from;
              to = found.to;
              from_is = found.from_is;
              to_is = found.to_is;
              free = (nothing_in_the_way how n l found.from found.to k two).open_way whole reads (record { says = sym is });
            };
      }

  pub blocked_as_hit : BlockedAsHit how n l at camera ball
  blocked_as_hit =
      record {
        as_hit = λ b sees.
            let k = looked_by (not_blocked b) sees in
            let (h, is, same) = walk_blocked _ b k.walk in
            record {
              from = k.from;
              to = k.to;
              hit = h;
              from_is = k.from_is;
              to_is = k.to_is;
              found = record { says = sym is };
              same_cell = ap (λ c. c.cell) same;
              same_code = ap (λ c. c.code) same;
              same_reads = ap (λ c. c.reads) same;
              same_face = ap (λ c. c.face) same;
              its_share = ap (λ c. c.share) same;
            };
      }

pub camera_first : (how : Manner) (n : Counts) (l : List ℕ) (at : Placement) (camera : Point) → CameraFirst how n l at camera
camera_first how n l at camera =
    record {
      refusal = λ r fine placed lost ball s hs. hs.says ∙ alike r lost ball ∙ ap₂ (λ v w. by_verdict Refused (Refused r) (v then w)) fine placed;
      any_ball = λ r lost ball other s t hs ht. hs.says ∙ alike r lost ball ∙ sym (alike r lost other) ∙ sym ht.says;
    }
  where
    alike : (r : Refusal) → look_up P n at camera ≡ Err r → (ball : Point) →
        sight how n l at camera ball ≡ by_verdict Refused (Refused r) (shape n (length l) then placement_check at)
    alike r lost ball = sight_is how n l at camera ball
        ∙ ap (λ s. by_verdict Refused s (shape n (length l) then placement_check at)) (camera_refused how n l at camera ball (sym lost) refl)

-- ---- points that are looked up alike, and the far corner

pub seen_alike : (how : Manner) (n : Counts) (l : List ℕ) (at : Placement) (camera ball camera' ball' : Point) →
    SeenAlike how n l at camera ball camera' ball'
seen_alike how n l at camera ball camera' ball' =
    record {
      alike = λ from to s h. record {
        says = h.says ∙ sight_is how n l at camera ball ∙
            ap (λ s. by_verdict Refused s (shape n (length l) then placement_check at))
            (looked_is how n l at camera ball ∙ ap₂ (seen how n l) from to ∙ sym (looked_is how n l at camera' ball'))
            ∙ sym (sight_is how n l at camera' ball');
      };
    }

-- the far corner is looked up as the middle of its cell, (3,1,0)
corner_looked_up : (e : End) → look_up e example_counts one_metre (point (metres 4) (metres 2) (metres 1)) ≡ Ok (at 3 1 0)
unfolding look_up eq le lt of_int div sub
corner_looked_up e = refl

middle_looked_up : (e : End) → look_up e example_counts one_metre (point (halves 7) (halves 3) (halves 1)) ≡ Ok (at 3 1 0)
unfolding look_up eq le lt of_int div sub
middle_looked_up e = refl

pub far_corner : FarCorner
far_corner =
    record {
      ball = λ how. (seen_alike how _ _ _ _ _ _ _).alike refl (corner_looked_up Q ∙ sym (middle_looked_up Q));
      camera = λ how. (seen_alike how _ _ _ _ _ _ _).alike (corner_looked_up P ∙ sym (middle_looked_up P)) refl;
    }

-- ---- wrong sights

pub wrong_sights : WrongSights
unfolding kind block_or sight eq le lt of_int div sub
wrong_sights =
    record {
      clear_always = λ how. not_there how.start how.rule;
      refuses_always = λ how. not_refused how.start how.rule;
      other_face = λ how. one_face how.start how.rule;
      own_housing = λ b h. let z : ◌≡◌ {A = ℕ} 1 0 = ap kind h.says in omega arith;
      housing_passed = λ how tested h. blocked_there how.start how.rule tested h;
      rule_ignored = back_blocked;
      always_rule_2 = back_clear;
      ball_refused = λ how r h. not_refused how.start how.rule r (far_corner.ball how (Refused r) h);
      camera_refused = λ how r h. back_not_refused how.start how.rule r (far_corner.camera how (Refused r) h);
    }
  where
    not_there : (s : Start) (u : Rule) → SeenThere (record { start = s; rule = u }) Clear → ⊥
    not_there Untested One h = let z : ◌≡◌ {A = ℕ} 0 1 = ap kind h.says in omega arith
    not_there Untested Two h = let z : ◌≡◌ {A = ℕ} 0 1 = ap kind h.says in omega arith
    not_there Tested One h = let z : ◌≡◌ {A = ℕ} 0 1 = ap kind h.says in omega arith
    not_there Tested Two h = let z : ◌≡◌ {A = ℕ} 0 1 = ap kind h.says in omega arith

    not_refused : (s : Start) (u : Rule) (r : Refusal) → SeenThere (record { start = s; rule = u }) (Refused r) → ⊥
    not_refused Untested One r h = let z : ◌≡◌ {A = ℕ} 2 1 = ap kind h.says in omega arith
    not_refused Untested Two r h = let z : ◌≡◌ {A = ℕ} 2 1 = ap kind h.says in omega arith
    not_refused Tested One r h = let z : ◌≡◌ {A = ℕ} 2 1 = ap kind h.says in omega arith
    not_refused Tested Two r h = let z : ◌≡◌ {A = ℕ} 2 1 = ap kind h.says in omega arith

    one_face : (s : Start) (u : Rule) (b : Block) → (b.face ≡ Face.Plus Y → ⊥) → SeenThere (record { start = s; rule = u }) (Blocked b) → ⊥
    one_face Untested One b other h = other (ap (λ s. (block_or b s).face) h.says)
    one_face Untested Two b other h = other (ap (λ s. (block_or b s).face) h.says)
    one_face Tested One b other h = other (ap (λ s. (block_or b s).face) h.says)
    one_face Tested Two b other h = other (ap (λ s. (block_or b s).face) h.says)

    blocked_there : (s : Start) (u : Rule) → s ≡ Tested → Housed (record { start = s; rule = u }) Clear → ⊥
    blocked_there Untested u e h = let z : ◌≡◌ {A = ℕ} 0 1 = ap (λ s. cond (is_tested s) 1 0) e in omega arith
    blocked_there Tested One e h = let z : ◌≡◌ {A = ℕ} 0 1 = ap kind h.says in omega arith
    blocked_there Tested Two e h = let z : ◌≡◌ {A = ℕ} 0 1 = ap kind h.says in omega arith

    back_blocked : (s : Start) → SeenBack (record { start = s; rule = Two }) Clear → ⊥
    back_blocked Untested h = let z : ◌≡◌ {A = ℕ} 0 1 = ap kind h.says in omega arith
    back_blocked Tested h = let z : ◌≡◌ {A = ℕ} 0 1 = ap kind h.says in omega arith

    back_clear : (s : Start) (b : Block) → SeenBack (record { start = s; rule = One }) (Blocked b) → ⊥
    back_clear Untested b h = let z : ◌≡◌ {A = ℕ} 1 0 = ap kind h.says in omega arith
    back_clear Tested b h = let z : ◌≡◌ {A = ℕ} 1 0 = ap kind h.says in omega arith

    back_not_refused : (s : Start) (u : Rule) (r : Refusal) → SeenBack (record { start = s; rule = u }) (Refused r) → ⊥
    back_not_refused Untested One r h = let z : ◌≡◌ {A = ℕ} 2 0 = ap kind h.says in omega arith
    back_not_refused Untested Two r h = let z : ◌≡◌ {A = ℕ} 2 1 = ap kind h.says in omega arith
    back_not_refused Tested One r h = let z : ◌≡◌ {A = ℕ} 2 0 = ap kind h.says in omega arith
    back_not_refused Tested Two r h = let z : ◌≡◌ {A = ℕ} 2 1 = ap kind h.says in omega arith
