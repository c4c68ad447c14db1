use Rattle.std.proofs.Common.{sym}
use Rattle.script_lines.proofs.NameWords.{more_names, names_fail}
use Rattle.script_lines.proofs.words.names.Goals as goal

pub loop-words-smaller : goal.loop-words-smaller
loop-words-smaller c = (more_names c.loop-words.names.items c.loop-words.words c.args.words c.in-Some.name c.name.new.self c.loop-words.invariant.whole c.loop-words.invariant.names c.in-Some.ensures).2

pub loop-words-preserved : goal.loop-words-preserved
loop-words-preserved c =
    let more = more_names c.loop-words.names.items c.loop-words.words c.args.words c.in-Some.name c.name.new.self c.loop-words.invariant.whole c.loop-words.invariant.names c.in-Some.ensures in
    rw c.in_ok-push-in-Some.ensures.items (record { whole = more.0; names = more.1 })

pub returns-in-None : goal.returns-in-None
returns-in-None c = sym (names_fail c.loop-words.names.items c.loop-words.words c.args.words c.loop-words.invariant.whole c.in-None.ensures.0 (sym c.loop-words-test.ensures))
