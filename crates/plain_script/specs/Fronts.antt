-- What the lines so far come to.
use Rattle.std.specs.Prelude.{ℕ, ◌+◌, if◌then◌else◌, List, [], ◌∷◌, ◌++◌, length, Option, None}
use Rattle.line_text.specs.Lines.{Line}
use Rattle.plain_script.specs.Rules.{place_after, declarations_of, declared_by, said_rule, is_begin}
use Rattle.script_lines.specs.LineRules.{passes_over}
use Rattle.plain_script.specs.Reading.{said_by, statements_by, statements_of, events_from, events_at}
use Rattle.plain_script.specs.declared.declaration.Declaration.{Declaration}
use Rattle.plain_script.specs.declared.event.Event.{Event}
use Rattle.plain_script.specs.declared.numbered.Numbered.{Numbered}
use Rattle.plain_script.specs.declared.statement.Statement.{Statement}
use Rattle.script_lines.specs.declared.rule.ScriptRule.{ScriptRule}
use Rattle.script_lines.specs.declared.place.Place.{Place}
use Rattle.script_lines.specs.declared.place.Place.TheVariants.{Head, Declarations, Events}

pub record Front : Type 0 where
  pub number : ℕ
  pub place : Place
  pub declarations : List Declaration
  pub events : List Numbered

abbrev pub front_of : List Line → Front
front_of lines = record {
  number = length lines;
  place = place_after (statements_of lines);
  declarations = declarations_of (statements_of lines);
  events = events_from 0 lines;
}

abbrev pub rule_behind : Front → Line → Option ScriptRule
rule_behind front line =
    if passes_over line then None
    else said_rule front.number front.place front.declarations (said_by line)

-- where the line behind a statement stands
abbrev pub next_place : Place → Statement → Place
next_place Head s = if is_begin s then Events else Declarations
next_place Declarations s = if is_begin s then Events else Declarations
next_place Events s = Events

-- with the statement of the line behind, which counts separately
abbrev pub stated : Front → Statement → Front
stated front s = record {
  number = front.number;
  place = next_place front.place s;
  declarations = front.declarations ++ declared_by s;
  events = front.events ++ events_at (front.number + 1) s;
}

-- with an event of the next line
abbrev pub happened : Front → Event → Front
happened front event =
    record front { events = front.events ++ record { line = front.number + 1; event = event } ∷ [] }

abbrev pub stated_all : Front → List Statement → Front
stated_all front [] = front
stated_all front (s ∷ ss) = stated_all (stated front s) ss

abbrev pub past_line : Front → Front
past_line front =
    record {
      number = front.number + 1;
      place = front.place;
      declarations = front.declarations;
      events = front.events;
    }

abbrev pub front_after : Front → Line → Front
front_after front line = past_line (stated_all front (statements_by line))
