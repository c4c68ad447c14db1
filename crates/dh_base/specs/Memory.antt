-- A source and a sink in memory.
use Rattle.std.specs.Prelude.{ℕ, List, Some, None}
use Rattle.dh_base.specs.Calls.{CallsTold}
use Rattle.dh_base.specs.Outside.{Seen}

pub record SourceTold : Type 0 where
  pub left : List ℕ
  pub calls : CallsTold

pub record SinkTold : Type 0 where
  pub written : List ℕ
  pub calls : CallsTold

-- what is seen of each: all its bytes are told
abbrev pub source_seen : SourceTold → Seen
source_seen source =
    record { left = Some source.left; written = None; faults = source.calls.faults }

abbrev pub sink_seen : SinkTold → Seen
sink_seen sink =
    record { left = None; written = Some sink.written; faults = sink.calls.faults }
