-- What is found of a command's files before a program runs: a program that is left to be run, or the reply.
-- Read against: of `run a.c` where the file is a program, it is that program, and the reply to its run is that to the command. Of `run a.c` where the file cannot be read, is too long, or has a text
-- that is refused, the reply stands already; and so it does of each replay.
use Rattle.std.specs.Prelude.{◌≡◌, None}
use Rattle.oss_command.specs.Commands.{Command, schedule_of}
use Rattle.oss_top.specs.Forms.{error_reply, too_large_line}
use Rattle.oss_top.specs.Reply.{IsProgramReply}
use Rattle.oss_top.specs.declared.found.Found.{Found}
use Rattle.oss_top.specs.declared.found.Found.TheVariants.{Accepted, Replied}
use Rattle.oss_top.specs.declared.reply.Reply.{Reply}
use Rattle.oss_top.specs.declared.status.Status.TheVariants as status

-- What was found of a command, whose replies are these: one of them; or a program, and then the command has no schedule, and each reply to the program is one of them.
abbrev pub IsFound : Command → (Reply → Type 0) → Found → Type 0
IsFound c IsRight (Replied reply) = IsRight reply
IsFound c IsRight (Accepted program) = (schedule_of c ≡ None) × ((reply : Reply) → IsProgramReply c program reply → IsRight reply)

-- the reply to a text that is too long
abbrev pub too_large_reply : Reply
too_large_reply = error_reply status.TextRefused too_large_line
