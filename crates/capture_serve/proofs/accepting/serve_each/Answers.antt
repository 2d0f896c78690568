use Rattle.std.proofs.Common.{◌≡◌, ◌∙◌, length, sym, ap, subst, arith}
use Rattle.std.proofs.lemmas.List.{length-map}
use Rattle.capture_serve.specs.Inside.Passing.{Came, arrival, coming_of}
use Rattle.capture_serve.specs.Inside.Handing.{HasTaken}
use Rattle.capture_serve.proofs.Taking.{seen_same}
use Rattle.capture_serve.proofs.accepting.serve_each.Goals as goal

pub returns-clause-came : goal.returns-clause-came
returns-clause-came g c = subst (λ l. Came c.accept_all-halted.result c.args.most l (g.H.Host.account c.args.host.now).content (g.H.Host.account c.accept_all-halted.new.host).content)
    (sym (seen_same (arrival g.H.In.Source g.H.Out.Sink) coming_of (λ served. served.was.value) c.accept_all-halted.new.seats.items c.join_all.new.all.items c.join_all.ensures.came)) c.accept_all-halted.ensures.came

pub returns-clause-few : goal.returns-clause-few
returns-clause-few g c = omega (arith, c.accept_all-halted.ensures.few, sym (length-map c.join_all.new.all.items (λ served. served.was.value)) ∙ ap length c.join_all.ensures.came ∙ length-map c.accept_all-halted.new.seats.items coming_of)

pub returns-clause-handed : goal.returns-clause-handed
returns-clause-handed g c =
    let many : length c.join_all.new.all.items ≡ length c.accept_all-halted.new.seats.items = sym (length-map c.join_all.new.all.items (λ served. served.was.value)) ∙ ap length c.join_all.ensures.came ∙ length-map c.accept_all-halted.new.seats.items coming_of in
    subst (λ n. HasTaken n (g.H.Host.account c.args.host.now).handed (g.H.Host.account c.accept_all-halted.new.host).handed) (sym many) c.accept_all-halted.ensures.handed
