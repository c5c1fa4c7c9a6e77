-- What do the files load as that `import` saved? (this project's own)
use Rattle.std.specs.Prelude.{◌≡◌, ◌++◌, ℕ, false, List, Some, Ok}
use Rattle.hive_model.specs.Edit.{Step}
use Rattle.hive_model.specs.Image.{Image}
use Rattle.hive_model.specs.Load.{Loads}
use Rattle.nt_edge.specs.Host.{HostState}
use Rattle.start_model.specs.Possible.{Woken}
use Rattle.report_text.specs.declared.line_text.form.ReportForm.{ReportForm}
use Rattle.command_words.specs.Words.{ImportAsked}
use Rattle.command_parts.specs.declared.command_parts.inputs.HiveFiles.{HiveFiles}
use Rattle.command_parts.specs.command_parts.Inputs.{hive_in}
use Rattle.command_parts.specs.command_parts.Placed.{image_in}
use Rattle.text_commands.specs.Changed.{steps_in, change_of}
use Rattle.text_commands.specs.ImportLines.{said_text}
use Rattle.text_commands.specs.Imported.{import_how}

-- Hive, log and text were there, and the text has no fault; the lines report the change that its edits make of the hive, and the image
-- loads, clean, as the state after that.
pub record LoadsAsTold (form : ReportForm) (words : ImportAsked) (old new : HostState) (image : Image) : Type 0 where
  pub files : HiveFiles
  pub placed : Woken
  pub text : List ℕ
  pub steps : List Step
  pub named : hive_in old.files words.hive words.log ≡ Ok files
  pub loaded : Loads (image_in files) placed.state placed.dirty
  pub got : old.files words.reg ≡ Some text
  pub reads : steps_in words.encoding text ≡ Ok steps
  pub said : new.said ≡ old.said ++ said_text form (change_of (import_how form words) placed.state steps).said
  pub loads : Loads image (change_of (import_how form words) placed.state steps).state false
