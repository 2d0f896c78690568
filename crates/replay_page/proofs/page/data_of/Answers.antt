use Rattle.serde_json.specs.View.{view}
use Rattle.replay_page.proofs.Datas.{page_unmarked, read_again}
use Rattle.replay_page.proofs.page.data_of.Goals as goal

pub returns-clause-quiet : goal.returns-clause-quiet
returns-clause-quiet c = page_unmarked c.args.page c.requires c.has_names.ensures.capture c.has_names.ensures.out

pub returns-clause-reads_back : goal.returns-clause-reads_back
returns-clause-reads_back c = read_again c.in_ok-to_vec.field-0.items (view c.in_ok-json.json) c.args.page c.in_ok-json.ensures c.in_ok-to_vec.ensures.text c.in_ok-to_vec.ensures.reads_back
