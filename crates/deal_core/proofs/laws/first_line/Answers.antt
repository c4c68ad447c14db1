use Rattle.std.proofs.Common.{refl}
use Rattle.line_text.specs.Lines.{lines_of}
use Rattle.deal_core.specs.Drafts.{no_lines}
use Rattle.deal_core.proofs.FaultLines.{line_of_first}
use Rattle.deal_core.proofs.FirstFault.{fault_of_lines, lines_fault}
use Rattle.deal_core.proofs.laws.first_line.Goals as goal

pub returns-clause-fault : goal.returns-clause-fault
returns-clause-fault c text fault = (fault_of_lines text fault, lines_fault text fault)

pub returns-clause-number : goal.returns-clause-number
returns-clause-number c text k fault h = line_of_first no_lines (lines_of text) k fault refl h
