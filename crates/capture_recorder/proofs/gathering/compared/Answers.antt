use Rattle.std.proofs.Common.{ℕ, ◌∙◌, List, sym, ap, subst, refl, arith}
use Rattle.std.proofs.lemmas.List.{length-map}
use Rattle.desk_values.specs.Room.{Room}
use Rattle.desk_values.specs.declared.value.Image.{Image}
use Rattle.desk_values.specs.declared.capture.Captured.{Captured}
use Rattle.desk_schema.specs.Start.{StartView}
use Rattle.captured_calls.specs.Sessions.{session_lists}
use Rattle.known_ids.specs.Knowing.{KnowsCalls}
use Rattle.capture_recorder.specs.declared.door.Said.{Said}
use Rattle.capture_recorder.specs.Gathering.{lists_of}
use Rattle.capture_recorder.specs.Inside.Answered.{IsEvidence}
use Rattle.capture_recorder.proofs.Comparing.{fewer, judged, own_lists}
use Rattle.capture_recorder.proofs.gathering.compared.Goals as goal

pub borne_out-requires : goal.borne_out-requires
borne_out-requires c =
    let r = c.args.recorder.now in
    let lists = c.in_ok-sessions.ensures.lists ∙ ap (session_lists c.max-count.result) c.calls.ensures.value in
    subst (λ (sessions : List (Room Captured)). IsEvidence r sessions c.in_ok-known.known) (sym c.as_slice-2.ensures) (record {
      own = own_lists r c.calls.ensures.valid c.in_ok-sessions.sessions c.max-count.result (omega (arith, c.max-count.ensures)) lists;
      ids = subst (λ (rows : List Image). KnowsCalls c.in_ok-known.known rows r.calls) (c.as_slice-rows.ensures ∙ c.rows.ensures.value ∙ ap (λ (s : StartView). s.rows) c.start.ensures.value)
          (subst (λ (calls : List Captured). KnowsCalls c.in_ok-known.known c.as_slice-rows.result.now calls) (c.as_slice.ensures ∙ c.calls-2.ensures.value) c.in_ok-known.ensures);
    })

pub returns-in-Ok : goal.returns-in-Ok
returns-in-Ok c =
    let r = c.args.recorder.now in
    let lists = c.in_ok-sessions.ensures.lists ∙ ap (session_lists c.max-count.result) c.calls.ensures.value in
    let count = length-map c.args.lists.now (λ (list : Room Said). list.items) in (
      refl,
      c.in-Ok.ensures.0,
      c.in-Ok.ensures.1,
      ap (λ (sessions : List (Room Captured)). lists_of sessions) c.first_sessions.ensures
          ∙ fewer c.in_ok-sessions.sessions r.calls c.max-count.result 0 c.len-in-Ok.result (omega (arith, c.max-count.ensures, c.in_ok-count_of.ensures, c.len.ensures, c.len-in-Ok.ensures)) lists
          ∙ ap (λ (n : ℕ). session_lists n r.calls) (c.len-in-Ok.ensures ∙ sym count),
    )

pub returns-in-Err : goal.returns-in-Err
returns-in-Err c = judged c.args.recorder.now (lists_of c.args.lists.now) (lists_of c.args.turned.now) c.in-Err.refusal c.in-Err.ensures
