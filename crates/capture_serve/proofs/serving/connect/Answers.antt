use Rattle.std.proofs.Common.{◌∙◌, List, Option, length, map, sym, subst, arith}
use mathlib.Core.Bool.{true≢false}
use Rattle.std.proofs.lemmas.List.{length-map}
use Rattle.capture_serve.specs.Inside.Passing.{Came, Moment, moment_of, passed_of}
use Rattle.capture_serve.specs.Service.{HasGivenBack}
use Rattle.capture_serve.proofs.Going.{LostSo}
use Rattle.capture_serve.proofs.Taking.{mapped_twice}
use Rattle.capture_serve.proofs.Whole.{all_handed, connected_by, counts_on, halted_by, none_back, none_listening, plain_by}
use Rattle.capture_serve.proofs.serving.connect.Goals as goal

pub returns-then-is_err-clause-back : goal.returns-then-is_err-clause-back
returns-then-is_err-clause-back g c =
    (λ well. subst (HasGivenBack c.args.most (g.H.Host.account c.args.host.now).content) (sym c.listen.ensures.content) (none_back c.args.most (g.H.Host.account c.args.host.now).content), λ is. absurd (true≢false (sym is)))

pub returns-then-is_err-clause-handed : goal.returns-then-is_err-clause-handed
returns-then-is_err-clause-handed g c =
    none_listening c.listen.result c.args.most c.args.port (g.H.Host.account c.args.host.now).handed (g.H.Host.account c.listen.new.self).handed (sym c.is_err.ensures.value ∙ c.if-is_err.true) c.listen.ensures.handed

pub returns-clause-connected : goal.returns-clause-connected
returns-clause-connected g c =
    let passed = passed_of g.H.In.Source g.H.Out.Sink in
    let all = c.serve_all-served.result.0.items in
    let before = (g.H.Host.account c.args.host.now).content in
    let mid = (g.H.Host.account c.serve_all-served.new.host).content in
    let came_all = subst (λ (l : List Moment). Came c.serve_all-served.result.1 c.args.most l (g.H.Host.account c.listen.new.self).content mid) (sym (mapped_twice passed moment_of all)) c.serve_all-served.ensures.came in
    let came = subst (λ (o : Option _). Came c.serve_all-served.result.1 c.args.most (map moment_of (map passed all)) o mid) c.listen.ensures.content came_all in
    connected_by c.args.most c.serve_all-served.result.1 c.give_back-told.result.0 c.give_back-told.result.1 c.outcome.result before mid (g.H.Host.account c.give_back-told.new.host).content (map passed all) came
    c.give_back-told.ensures.gave c.serve_all-served.ensures.passed (omega (arith, c.serve_all-served.ensures.few, length-map all passed)) c.give_back-told.ensures.notes c.outcome.ensures.ok

pub returns-clause-plain : goal.returns-clause-plain
returns-clause-plain g c = plain_by c.serve_all-served.result.1 c.give_back-told.result.0 c.outcome.result c.outcome.ensures.fails

pub returns-clause-back : goal.returns-clause-back
returns-clause-back g c =
    let passed = passed_of g.H.In.Source g.H.Out.Sink in
    let all = c.serve_all-served.result.0.items in
    let before = (g.H.Host.account c.args.host.now).content in
    let mid = (g.H.Host.account c.serve_all-served.new.host).content in
    let came_all = subst (λ (l : List Moment). Came c.serve_all-served.result.1 c.args.most l (g.H.Host.account c.listen.new.self).content mid) (sym (mapped_twice passed moment_of all)) c.serve_all-served.ensures.came in
    let came = subst (λ (o : Option _). Came c.serve_all-served.result.1 c.args.most (map moment_of (map passed all)) o mid) c.listen.ensures.content came_all in
    halted_by c.args.most c.serve_all-served.result.1 c.give_back-told.result.0 c.give_back-told.result.1 c.outcome.result before mid (g.H.Host.account c.give_back-told.new.host).content (map passed all) came
    c.give_back-told.ensures.gave c.serve_all-served.ensures.passed (omega (arith, c.serve_all-served.ensures.few, length-map all passed))
    (λ lost. subst (λ n. LostSo n mid (g.H.Host.account c.give_back-told.new.host).content) (sym (length-map all passed)) (c.give_back-told.ensures.lost lost)) c.outcome.ensures.fails

pub returns-clause-counts : goal.returns-clause-counts
returns-clause-counts g c =
    counts_on c.listen.result c.serve_all-served.result.1 c.outcome.result (g.H.Host.account c.args.host.now).faults (g.H.Host.account c.listen.new.self).faults (g.H.Host.account c.serve_all-served.new.host).faults (g.H.Host.account c.give_back-told.new.host).faults
    (sym c.is_err.ensures.value ∙ c.if-is_err.false) c.listen.ensures.counts c.serve_all-served.ensures.counts c.give_back-told.ensures.faults c.outcome.ensures.ending

pub returns-clause-handed : goal.returns-clause-handed
returns-clause-handed g c =
    all_handed c.listen.result c.args.most c.args.port (length c.serve_all-served.result.0.items) (g.H.Host.account c.args.host.now).handed (g.H.Host.account c.listen.new.self).handed (g.H.Host.account c.serve_all-served.new.host).handed (g.H.Host.account c.give_back-told.new.host).handed
    (sym c.is_err.ensures.value ∙ c.if-is_err.false) c.listen.ensures.handed c.serve_all-served.ensures.handed c.give_back-told.ensures.handed c.serve_all-served.ensures.few
