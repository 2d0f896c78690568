use Rattle.std.proofs.Common.{◌≡◌, ◌∙◌, ◌<◌, ◌+◌, inl, inr, ℕ, Bool, false, true, Option, Some, sym, ap, subst, arith, take, rules, if◌then◌else◌}
use Rattle.row_versions.specs.declared.versions.Version.{Version}
use Rattle.row_versions.specs.History.{is_up_to, row_at, seen_of, written_of}
use Rattle.row_versions.specs.Inside.Links.{last_place}
use Rattle.row_versions.proofs.Chains.{Walks, end_of, found_here, walk_begins, walk_ends, walk_falls, walk_jumps, walk_on, walk_stands}
use Rattle.row_versions.proofs.versions.version_at.Goals as goal

pub loop-next-init : goal.loop-next-init
loop-next-init c = walk_begins c.args.row c.args.n c.args.list.now c.args.last c.requires.last

pub bounds-list-at : goal.bounds-list-at
bounds-list-at c = (walk_stands c.args.row c.args.n c.args.list.now c.in-Some.at (subst (Walks c.args.row c.args.n c.args.list.now) c.in-Some.is c.loop-next.invariant)).inside

pub returns-then-version-n : goal.returns-then-version-n
returns-then-version-n c =
    let s = walk_stands c.args.row c.args.n c.args.list.now c.in-Some.at (subst (Walks c.args.row c.args.n c.args.list.now) c.in-Some.is c.loop-next.invariant) in
    let v : s.version ≡ c.index-list-at.result = found_here c.args.list.now c.in-Some.at s.version c.index-list-at.result s.is c.index-list-at.is in
    let b : is_up_to c.args.n (written_of s.version) ≡ true = let e = ap (λ (w : Version). w.number) v in grind (arith, e, c.if-version-n.true) in
    sym (s.reads ∙ ap (λ (t : Bool). if t then Some s.version.image else row_at (seen_of (take c.in-Some.at c.args.list.now)) c.args.row c.args.n) b ∙ ap (λ (w : Version). Some w.image) v)

pub loop-next-preserved : goal.loop-next-preserved
loop-next-preserved c =
    let s = walk_stands c.args.row c.args.n c.args.list.now c.in-Some.at (subst (Walks c.args.row c.args.n c.args.list.now) c.in-Some.is c.loop-next.invariant) in
    let v : s.version ≡ c.index-list-at.result = found_here c.args.list.now c.in-Some.at s.version c.index-list-at.result s.is c.index-list-at.is in
    let b : is_up_to c.args.n (written_of s.version) ≡ false = let e = ap (λ (w : Version). w.number) v in grind (arith, e, c.if-version-n.false) in
    elim c.behind-next.ensures [
      | inl near ↦ subst (Walks c.args.row c.args.n c.args.list.now) (ap (λ (w : Version). w.before) v ∙ sym near) (walk_on c.args.row c.args.n c.args.list.now c.in-Some.at s c.requires.linked b)
      | inr far ↦ subst (Walks c.args.row c.args.n c.args.list.now) (sym far.2) (walk_jumps c.args.row c.args.n c.args.list.now far.0 far.1 c.requires.ascends far.4 far.5 far.6)
    ]

pub loop-next-smaller : goal.loop-next-smaller
loop-next-smaller c =
    let s = walk_stands c.args.row c.args.n c.args.list.now c.in-Some.at (subst (Walks c.args.row c.args.n c.args.list.now) c.in-Some.is c.loop-next.invariant) in
    let v : s.version ≡ c.index-list-at.result = found_here c.args.list.now c.in-Some.at s.version c.index-list-at.result s.is c.index-list-at.is in
    let before : c.index-list-at.result.before ≡ last_place c.args.row (take c.in-Some.at c.args.list.now) = ap (λ (w : Version). w.before) (sym v) ∙ c.requires.linked c.in-Some.at s.version s.is ∙ ap (λ (r : ℕ). last_place r (take c.in-Some.at c.args.list.now)) s.row_is in
    let falls : end_of c.behind-next.result < c.in-Some.at + 1 = elim c.behind-next.ensures [
      | inl near ↦ subst (λ (o : Option ℕ). end_of o < c.in-Some.at + 1) (sym near) (walk_falls c.args.row c.args.n c.args.list.now c.in-Some.at c.index-list-at.result.before before)
      | inr far ↦ subst (λ (o : Option ℕ). end_of o < c.in-Some.at + 1) (sym far.2) (let less = far.3 in omega (arith, less))
    ] in
    subst (λ (o : Option ℕ). end_of c.behind-next.result < end_of o) (sym c.in-Some.is) falls

pub returns : goal.returns
returns c = sym (walk_ends c.args.row c.args.n c.args.list.now (subst (Walks c.args.row c.args.n c.args.list.now) c.in_default.is c.loop-next.invariant))

pub offset_bounds-list-at : goal.offset_bounds-list-at
offset_bounds-list-at c = let inside = (walk_stands c.args.row c.args.n c.args.list.now c.in-Some.at (subst (Walks c.args.row c.args.n c.args.list.now) c.in-Some.is c.loop-next.invariant)).inside in search rules
